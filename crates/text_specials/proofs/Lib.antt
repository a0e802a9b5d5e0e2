pub mod Fields
pub mod AsIsLaws
pub mod BlankLaws
pub mod OpenLaws
pub mod SignLaws
pub mod TakenLaws
pub mod LineTokenLaws
