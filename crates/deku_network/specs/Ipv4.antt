-- The lengths that an IPv4 header names.
use Rattle.std.specs.Prelude.{◌≡◌, ◌⊎◌, ◌<◌, ◌≤◌, ◌+◌, ◌-◌, ◌*◌, ◌/◌, ◌%◌, ◌^◌, ℕ, List, length, codes, Result, Ok, Err}
use Rattle.deku.specs.declared.error.DekuError.{DekuError}
use Rattle.deku.specs.declared.error.DekuError.TheVariants.{Parse}
use Rattle.deku.specs.Faults.{Tells}
use Rattle.deku_network.specs.declared.ipv4.Ipv4.{Ipv4}

-- The number of bytes of the options.
abbrev pub option_count : Ipv4 → ℕ
option_count h = length h.options.items

-- The options are at most ten whole words.
abbrev pub HasWholeWords : Ipv4 → Type 0
HasWholeWords h = (option_count h ≤ 40) × (option_count h % 4 ≡ 0)

-- The bytes of the header are among those that the total counts.
abbrev pub CountsItself : Ipv4 → Type 0
CountsItself h = 4 * h.words ≤ h.total

-- The total with the header and its options, and the payload.
abbrev pub next_total : Ipv4 → ℕ
next_total h = h.total - 4 * h.words + 20 + option_count h

-- The header with its two lengths.
abbrev pub counted : Ipv4 → Ipv4
counted h = record h { words = 5 + option_count h / 4; total = next_total h }

-- It fails for this cause, and stays as it was.
abbrev pub StaysFor : List ℕ → Ipv4 → Result (Unit {0}) DekuError → Ipv4 → Type 0
StaysFor cause h r g = ((e : DekuError) × (r ≡ Err e) × Tells Parse cause e) × (g ≡ h)

-- A header gets its two lengths, if its options are whole words, its total counts the header, and
-- the new total fits 16 bits. Otherwise it fails for the first of these that does not hold.
abbrev pub Updates : Ipv4 → Result (Unit {0}) DekuError → Ipv4 → Type 0
Updates h r g = (HasWholeWords h × CountsItself h × (next_total h < 2 ^ 16) × (r ≡ Ok tt) × (g ≡ counted h))
    ⊎ ((HasWholeWords h → ⊥) × StaysFor (codes "options of no whole words") h r g)
    ⊎ (HasWholeWords h × (CountsItself h → ⊥) × StaysFor (codes "total below header") h r g)
    ⊎ (HasWholeWords h × CountsItself h × (2 ^ 16 ≤ next_total h) × StaysFor (codes "packet too long") h r g)
