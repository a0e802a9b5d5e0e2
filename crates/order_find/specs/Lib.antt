pub mod Answer
pub mod Search
