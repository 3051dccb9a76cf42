-- Helper: the headline does not rest on this file.
-- No text is that of two tokens, and no token has two texts.
use Rattle.std.specs.Prelude.{◌≡◌, ℕ, List, IfSome}
use Rattle.key_names.specs.Names.{IsFine}
use Rattle.bucket_terms.specs.declared.token.Token.{Token}
use Rattle.bucket_terms.specs.Listing.{IsTokenOf, point_text}
use Rattle.bucket_terms.specs.PageParts.{IsShortBound}

abbrev pub HasOneToken : List ℕ → Type 0
HasOneToken text = (a b : Token) → IsTokenOf a text → IsTokenOf b text → a ≡ b

abbrev pub HasOneText : Token → Type 0
HasOneText token = (s t : List ℕ) → IsTokenOf token s → IsTokenOf token t → s ≡ t

-- the token has a text
pub record HasText (token : Token) : Type 0 where
  pub fine : IsFine (point_text token.point)
  pub bound : IfSome token.bound IsShortBound
