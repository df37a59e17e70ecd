pub mod ElementTheory
