pub mod Again
pub mod HeadRead
pub mod Talking
pub mod Knowing
pub mod OneDialogue
