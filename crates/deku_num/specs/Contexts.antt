-- Names in texts.
use Rattle.std.specs.Prelude.{ℕ, ◌≡◌, List, Result, Ok, Err, codes}
use Rattle.deku_num.specs.declared.ctx.Endian.{Endian}
use Rattle.deku_num.specs.declared.ctx.Endian.TheVariants.{Little, Big}
use Rattle.deku_num.specs.declared.ctx.ParseEndianError.{ParseEndianError}

-- What a text is parsed as: `little`, `big`, or nothing.
pub record IsEndianNamed (text : List ℕ) (r : Result Endian ParseEndianError) : Type 0 where
  pub little : text ≡ codes "little" → r ≡ Ok Little
  pub big : text ≡ codes "big" → r ≡ Ok Big
  pub other : (text ≡ codes "little" → ⊥) → (text ≡ codes "big" → ⊥) → r ≡ Err (record {})
