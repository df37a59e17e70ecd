-- What is saved is loaded, and a file is loaded or has one fault.
pub mod Spelled
pub mod FactSpelled
pub mod SavedParts
pub mod OneElement
pub mod FactRuns
pub mod LoadExact
pub mod LoadSteps
pub mod FrontElements
