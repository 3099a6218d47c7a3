-- Groups of eight: how a list is cut, and inductions over eights.
use Rattle.std.proofs.Common.{ℕ, zero, suc, ◌+◌, ◌<◌, ◌≡◌, Bool, List, [], ◌∷◌, ◌++◌, length, refl, sym, subst, arith, length-append}
use Rattle.deku_stream.specs.Bits.{chunks}
use Rattle.deku_stream.specs.Bits.{groups}

pub chunks-full : (g t : List Bool) → length g ≡ 8 → chunks (g ++ t) ≡ g ∷ chunks t
chunks-full (a ∷ b ∷ c ∷ d ∷ e ∷ f ∷ g ∷ h ∷ []) t l = refl
chunks-full _ t l = absurd (omega arith)

pub chunks-short : (s : List Bool) → 0 < length s → length s < 8 → chunks s ≡ s ∷ []
chunks-short [] p l = absurd (omega arith)
chunks-short (a ∷ b ∷ c ∷ d ∷ e ∷ f ∷ g ∷ h ∷ s) p l = absurd (omega arith)
chunks-short _ p l = refl

-- numbers: 0, below eight, and eight more
pub by_eights : (P : ℕ → Type 0) → P 0 → ((n : ℕ) → 0 < n → n < 8 → P n) → ((n : ℕ) → P n → P (8 + n)) → (n : ℕ) → P n
by_eights P z s e zero = z
by_eights P z s e (suc (suc (suc (suc (suc (suc (suc (suc n)))))))) =
    let same : 8 + n ≡ suc (suc (suc (suc (suc (suc (suc (suc n))))))) = omega arith in
    subst P same (e n (by_eights P z s e n))
by_eights P z s e _ = s _ (omega arith) (omega arith)

-- lists: the empty one, those shorter than eight, and eight more in front
pub by_groups : (P : List Bool → Type 0) → P [] → ((s : List Bool) → 0 < length s → length s < 8 → P s) → ((g t : List Bool) → length g ≡ 8 → P t → P (g ++ t)) → (s : List Bool) → P s
by_groups P z s e [] = z
by_groups P z s e (a ∷ b ∷ c ∷ d ∷ i ∷ f ∷ g ∷ h ∷ t) = e (a ∷ b ∷ c ∷ d ∷ i ∷ f ∷ g ∷ h ∷ []) t refl (by_groups P z s e t)
by_groups P z s e _ = s _ (omega arith) (omega arith)

pub groups-more : (n : ℕ) → groups (8 + n) ≡ suc (groups n)
groups-more n = omega arith

pub groups_short : (n : ℕ) → 0 < n → n < 8 → groups n ≡ 1
groups_short n p l = omega arith

pub length-chunks : (s : List Bool) → length (chunks s) ≡ groups (length s)
length-chunks s = by_groups (λ s. length (chunks s) ≡ groups (length s)) refl
    (λ s p l. rw chunks-short (sym (groups_short (length s) p l)))
    (λ g t l h. rw (chunks-full g t l, length-append g t, l) (omega arith))
    s
