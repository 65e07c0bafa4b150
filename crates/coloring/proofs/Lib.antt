pub mod Moving
pub mod PowerOfTwo
pub mod SettingAside
pub mod ColorLaws
