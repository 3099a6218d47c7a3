pub use Rattle.deku_pieces.proofs.HighFirst
