-- Helper: the headline does not rest on this file.
-- The plain pass as its caller sees it at the start, and where it looks.
use Rattle.std.specs.Prelude.{◌≡◌, ℕ, MatchBool, [], None}
use Rattle.key_map.specs.declared.pass.Done.{Done}
use Rattle.key_map.specs.declared.pass.New.{New}
use Rattle.key_map.specs.declared.pass.New.TheVariants.{Made, Kept}
use Rattle.key_map.specs.declared.pass.PassSize.{PassSize}
use Rattle.bucket_terms.specs.PassView.{PassView, RoseByOne}

-- nothing was done yet, and all slots and calls are left
abbrev pub fresh : ℕ → PassSize → PassView
fresh number size = record {
  number = number;
  seen = [];
  mine = [];
  looks = 0;
  found = 0;
  nodes = size.nodes;
  entries = size.entries;
  left = size.calls;
  opened = None;
}

-- no load of the stamp has fixed a place
pub record KeepsLooks (old new : PassView) : Type 0 where
  pub looks : new.looks ≡ old.looks
  pub found : new.found ≡ old.found

-- a removal looks once where the key is not there, and not where it is
abbrev pub LooksOnceIfAbsent : PassView → PassView → Done → Type 0
LooksOnceIfAbsent old new done = MatchBool done.was (KeepsLooks old new) (RoseByOne old.looks new.looks)

-- a put of a new key looks once where the key is there, and not where it is not
abbrev pub LooksOnceIfKept : PassView → PassView → New → Type 0
LooksOnceIfKept old new (Made at) = KeepsLooks old new
LooksOnceIfKept old new (Kept at) = RoseByOne old.looks new.looks
