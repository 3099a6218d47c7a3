-- Vectors of numbers, written and read back.
use Rattle.std.specs.Prelude.{◌≡◌, ℕ, ◌+◌, ◌*◌, ◌<◌, ◌^◌, false, List, [], ◌++◌, length, MatchResult, Option, Some, Result, Ok, ℤ}
use Rattle.std.specs.List.{All}
use Rattle.std.specs.Global.{Vec}
use Rattle.std.specs.declared.io.ErrorKind.TheVariants.{OutOfMemory}
use Rattle.deku_bits.specs.declared.error.DekuError.{DekuError}
use Rattle.deku_bits.specs.declared.error.DekuError.TheVariants.{Io}
use Rattle.deku_bits.specs.Streams.{Stream, fresh}
use Rattle.deku_bits.specs.Writers.{Nothing}
use Rattle.deku_bits.specs.Standings.{Standing, Going, Output}
use Rattle.deku_bits.specs.Outcomes.{Meaning}
use Rattle.deku_bits.specs.WriterCalls.{Finalizes}
use Rattle.deku_num.specs.declared.kind.NumberType.{NumberType}
use Rattle.deku_num.specs.declared.ctx.Layout.{Layout}
use Rattle.deku_num.specs.Numbers.{width, Fits, IsAllowed}
use Rattle.deku_meanings.specs.Composing.{Both}

-- What m writes from nothing, padded once, gives these bytes to a sink that had taken none.
pub record GivesBytes (m : Meaning Output (Unit {0})) (bytes : List ℕ) : Type 0 where
  pub before : Output
  pub after : Output
  pub count : ℕ
  pub count_after : ℕ
  pub nothing : before.pending ≡ Nothing
  pub none : before.taken ≡ Some []
  pub written : Both m Finalizes false (Going before count) (Ok tt) (Going after count_after)
  pub taken : after.taken ≡ Some bytes

-- Vectors under one context whose layout is not rejected, of a type whose values stand for
-- integers. From bytes that begin with what a vector of fitting values is written as, whatever
-- follows, a read with a count of its length gives its items, or memory runs out. This holds if the
-- bits can be counted and no device fails.
abbrev pub ReadsAsWritten : {V : Type 0} → NumberType → Layout → (V → ℤ) → (ℕ → Meaning (Option Stream) (Vec V)) → (Vec V → Meaning Output (Unit {0})) → Type 0
ReadsAsWritten {V} t l h reads writes = (v : Vec V) (bytes behind : List ℕ) (c : ℕ) (r : Result (Vec V) DekuError) (u : Standing (Option Stream))
    → IsAllowed t l → All (λ x. Fits t l (h x)) v.items → GivesBytes (writes v) bytes → c + length v.items * width t l < 2 ^ 64
    → reads (length v.items) false (Going (Some (fresh (bytes ++ behind))) c) r u → MatchResult r (λ w. w.items ≡ v.items) (λ e. e ≡ Io OutOfMemory)
