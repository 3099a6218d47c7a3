-- What is read from bytes of which nothing is read yet.
use Rattle.std.proofs.Common.{◌≡◌, ℕ, false, Result, Ok, Err, Option, Some, None, List, [], refl, subst, arith}
use Rattle.deku_bits.specs.declared.error.DekuError.{DekuError}
use Rattle.deku_bits.specs.Devices.{Health}
use Rattle.deku_bits.specs.Streams.{Stream, fresh}
use Rattle.deku_bits.specs.Standings.{Standing, Going}
use Rattle.deku_bits.specs.Outcomes.{Quiet}
use Rattle.deku_bits.proofs.Handing.{no_fewer_same}
use Rattle.deku_fields.specs.declared.list.Number.{Number}
use Rattle.deku_fields.specs.declared.list.Field.{Field}
use Rattle.deku_fields.specs.ListCalls.{ReadsFields}
use Rattle.deku_fields.proofs.ReadBack.{read_back}
use Rattle.deku_fields.proofs.Finding.{finds_any}
use Rattle.deku_plan.specs.Records.{ReadsAll, ReadsBackAll, FindsAll}

-- what is read from where a reader is is read from the first byte on
pub from_first : (fs : List Field) (bytes : List ℕ) (r : Result (List Number) DekuError) (s u : Standing (Option Stream)) → s ≡ Going (Some (fresh bytes)) 0 → ReadsFields fs false s r u → ReadsAll fs bytes r
from_first fs bytes r s u e m = (u, subst (λ x. ReadsFields fs false x r u) e m)

pub back_all : (fs : List Field) (bytes : List ℕ) (r : Result (List Number) DekuError) → ReadsAll fs bytes r → ReadsBackAll fs bytes r
back_all fs bytes r m items after begins room = (read_back fs r (Going (Some (fresh bytes)) 0) m.0 m.1 items bytes after 0 begins refl (omega (arith, room))).0

pub finds_all : (fs : List Field) (bytes : List ℕ) (r : Result (List Number) DekuError) → ReadsAll fs bytes r → FindsAll fs bytes r
finds_all fs bytes (Err e) m = tt
finds_all fs bytes (Ok ns) m =
    let h : Health = record { failures = Some 0; lenders = []; whole = None } in
    let f = finds_any fs (Ok ns) (Going (Some (fresh bytes)) 0) {u = m.0} {f = h} {g = h} (Quiet m.1 (no_fewer_same h)) (fresh bytes) 0 refl in
    (f.allowed, (f.rest, f.read))
