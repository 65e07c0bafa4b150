pub mod Rising
pub mod Numbers
pub mod Telling
pub mod ForthAndBack
