pub use Rattle.deku_pieces.specs.Symmetric
pub use Rattle.deku_pieces.specs.Pieces
pub use Rattle.deku_pieces.specs.Packs
pub mod Counting
pub mod Fields
