-- Items that are read one after the other, as many as are in memory.
use Rattle.std.proofs.Common.{◌≡◌, ℕ, ◌+◌, List, [], ◌∷◌, ◌++◌, length, refl, sym, ap, ap₂, ◌∙◌, subst, append-nil, append_assoc, length-append, Bool, Option}
use Rattle.deku_bits.specs.Devices.{KnownSource, Health}
use Rattle.deku_bits.specs.Streams.{Stream}
use Rattle.deku_bits.specs.Standings.{Standing, reader_state}
use Rattle.deku_bits.specs.Outcomes.{Meaning}
use Rattle.deku_bits.proofs.Handing.{no_fewer_on, no_fewer_same}
use Rattle.deku_num.specs.NumberCalls.{Passed}
use Rattle.deku_meanings.specs.Composing.{Answered, Second}
use Rattle.deku_reading.specs.Ahead.{Appended}
use Rattle.deku_reading.specs.Lists.{AnswersEach, Stored}
use Rattle.deku_reading.proofs.Runs.{SoFar}

-- ---- items in turn
each_append : {A V : Type 0} (m : Meaning A V) (vs ws : List V) (s t u : Standing A) → AnswersEach m vs s t → AnswersEach m ws t u → AnswersEach m (vs ++ ws) s u
each_append m [] ws s t u p q = subst (λ x. AnswersEach m ws x u) p q
each_append m (v ∷ vs) ws s t u p q = (p.0, p.1, each_append m vs ws p.0 t u p.2 q)

each_stored : {A V : Type 0} (m : Meaning A V) (vs : List V) (s u : Standing A) → AnswersEach m vs s u → AnswersEach (Stored m) vs s u
each_stored m [] s u p = p
each_stored m (v ∷ vs) s u p = (p.0, Second v p.0 p.1 (Passed Answered), each_stored m vs p.0 u p.2)

-- ---- items that are appended
pub none_appended : {T : Type 0} {m : Meaning (Option Stream) T} {xs : List T} {known : KnownSource} {s : Standing (List Bool)} → Appended m 0 xs xs known s known s
none_appended {xs} {known} = record { items = []; count = refl; joined = sym (append-nil xs); each = refl; kept = no_fewer_same known.health }

pub more_appended : {T : Type 0} {m : Meaning (Option Stream) T} {n k : ℕ} {xs ys zs : List T} {known mid after : KnownSource} {s t u : Standing (List Bool)}
    → Appended m n xs ys known s mid t → Appended m k ys zs mid t after u → Appended m (n + k) xs zs known s after u
more_appended {m} {xs} {known} {mid} {after} {s} {t} {u} a b = record {
  items = a.items ++ b.items;
  count = length-append a.items b.items ∙ ap₂ (λ x y. x + y) a.count b.count;
  joined = b.joined ∙ ap (λ zs. zs ++ b.items) a.joined ∙ append_assoc xs a.items b.items;
  each = each_append m a.items b.items (reader_state known.remaining s) (reader_state mid.remaining t) (reader_state after.remaining u) a.each b.each;
  kept = no_fewer_on known.health mid.health after.health a.kept b.kept;
}

pub appended_length : {T : Type 0} {m : Meaning (Option Stream) T} {n : ℕ} {xs ys : List T} {known after : KnownSource} {s u : Standing (List Bool)} → Appended m n xs ys known s after u → length ys ≡ length xs + n
appended_length {xs} a = ap length a.joined ∙ length-append xs a.items ∙ ap (λ n. length xs + n) a.count

-- those that were read before, and these
pub far_appended : {T : Type 0} {m : Meaning (Option Stream) T} {n : ℕ} {xs ys : List T} {s0 : Standing (Option Stream)} {f0 : Health} {known after : KnownSource} {s u : Standing (List Bool)}
    → SoFar (Stored m) xs s0 f0 (reader_state known.remaining s) known.health → Appended m n xs ys known s after u → SoFar (Stored m) ys s0 f0 (reader_state after.remaining u) after.health
far_appended {m} {xs} {s0} {f0} {known} {after} {s} {u} k a = subst (λ zs. SoFar (Stored m) zs s0 f0 (reader_state after.remaining u) after.health) (sym a.joined) (record {
  turn = each_append (Stored m) xs a.items s0 (reader_state known.remaining s) (reader_state after.remaining u) k.turn (each_stored m a.items (reader_state known.remaining s) (reader_state after.remaining u) a.each);
  calm = no_fewer_on f0 known.health after.health k.calm a.kept;
})
