pub mod AccordTheory
pub mod ExchangeTheory
pub mod ScheduleTheory
pub mod CatalogueTheory
pub mod LengthTheory
