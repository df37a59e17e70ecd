pub mod Cuts
mod Ends
pub mod Order
mod Asking
mod Steps
mod Shorts
mod Fronts
mod Parts
mod Clips
mod Runs
mod Lists
mod Trims
mod Entries
mod Among
mod Uncuts
mod Plans
pub mod Agendas
mod AgendaSteps
