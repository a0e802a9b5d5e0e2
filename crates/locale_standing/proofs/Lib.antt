pub mod StandLaws
pub mod TokenLaws
pub mod TurnLaws
pub mod CountLaws
