mod HeldTheory
mod PresenceTheory
mod ChangeTheory
mod OrderTheory
mod SideTheory
