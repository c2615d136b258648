pub mod Feeding
pub mod Answered
pub mod Normals
pub mod HeaderTexts
pub mod OneText
