pub mod Apdus
pub mod ReadingBack
pub mod Text
pub mod Writes
pub mod Productions
pub use Rattle.zasn.specs.Place
pub use Rattle.zasn.specs.Results
pub use Rattle.zasn.specs.declared.error.BuildError
