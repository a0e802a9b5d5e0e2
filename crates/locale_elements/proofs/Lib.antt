pub mod ThinLaws
pub mod TailLaws
pub mod CharacterLaws
pub mod FaultLaws
pub mod ElementLaws
pub mod BothLaws
pub mod PaperLaws
