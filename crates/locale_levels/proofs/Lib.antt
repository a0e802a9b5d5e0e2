pub mod MachineLaws
pub mod JoinLaws
pub mod RuleLaws
pub mod CountLaws
pub mod LevelLaws
pub mod WriteLaws
