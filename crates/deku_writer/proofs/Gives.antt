-- What a sink took, and what it declined after that.
use Rattle.std.proofs.Common.{List, ◌++◌, length-append, arith, ℕ}
use Rattle.std.specs.declared.io.ErrorKind.{ErrorKind}
use Rattle.deku_device.specs.Devices.{KnownSink, Gave}
use Rattle.deku_writer.specs.Pushing.{GaveUp}
use Rattle.deku_device.proofs.Transfers.{Declined-after, Declined-more}
pub use Rattle.deku_device.proofs.Transfers.{Shrinks-none, Shrinks-trans, LacksRoom-after, LacksRoom-more, Gave-nil, Gave-trans}

-- bytes were taken, and then not all of the others
pub gave_up-after : (a b c : KnownSink) (xs ys : List ℕ) (k : ErrorKind) → Gave a b xs → GaveUp b c ys k → GaveUp a c (xs ++ ys) k
gave_up-after a b c xs ys k p q = record { some = omega (arith, q.some, length-append xs ys); declined = Declined-after a b c xs ys k p q.declined }

-- where more bytes were to be taken
pub gave_up-more : (a b : KnownSink) (xs ys : List ℕ) (k : ErrorKind) → GaveUp a b xs k → GaveUp a b (xs ++ ys) k
gave_up-more a b xs ys k q = record { some = omega (arith, q.some, length-append xs ys); declined = Declined-more a b xs ys k q.declined }
