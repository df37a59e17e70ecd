pub use Rattle.zoom_pool.proofs.Advancing
pub use Rattle.zoom_pool.proofs.Uniqueness
pub use Rattle.zoom_pool.proofs.Metas
