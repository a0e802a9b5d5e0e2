pub mod Worded
