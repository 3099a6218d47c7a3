use Rattle.std.specs.Prelude.{◌≡◌, ◌<◌, ◌≤◌, ◌^◌, length}
use Rattle.deku_reading.proofs.CuttingEach.{CutTo}
use Rattle.deku_reading.proofs.impls.array.ArrayArrayLike.cut.Given as goal

abbrev pub invariant-loop-place : goal.invariant-loop-place
invariant-loop-place g l = record {
  far : CutTo (g.T.DekuReader.meaning l.ctx) l.order l.word l.room l.place l.slots l.rest l.left;
  long : length l.slots ≡ g.row.N;
  few : l.left ≤ 64;
  within : l.left ≤ l.room;
  below : l.rest < 2 ^ l.left;
}
