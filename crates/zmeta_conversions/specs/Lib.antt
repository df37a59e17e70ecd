pub mod Worlds
pub mod Catalogues
pub mod Laws
