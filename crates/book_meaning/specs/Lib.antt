pub mod Tables
pub mod ReadingBack
pub mod Worked
