-- The table of the bytes that a tag may have, checked entry by entry.
use Rattle.std.proofs.Common.{◌≡◌, ℕ, ◌<◌, ◌==◌, true, get_or, refl}
use Rattle.std.proofs.lemmas.Bool.{agree_below, agree_below_at}
use Rattle.line_grammar.specs.declared.texts.TheConstants.{TAG_BYTES}
use Rattle.line_grammar.specs.Texts.{is_tag_byte}

entries : agree_below (λ b. get_or TAG_BYTES b 0 == 1) is_tag_byte 256 ≡ true
unfolding is_tag_byte
entries = refl

pub tag_entry : (b : ℕ) → b < 256 → (get_or TAG_BYTES b 0 == 1) ≡ is_tag_byte b
tag_entry b byte = agree_below_at (λ b. get_or TAG_BYTES b 0 == 1) is_tag_byte 256 b entries byte
