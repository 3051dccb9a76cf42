-- Views that were joined into other ones.
use Rattle.std.specs.Prelude.{◌≡◌, true}
use Rattle.index_words.specs.declared.view.View.{View}
use Rattle.index_words.specs.Views.{spent_view}

-- a view that was joined into another one knows and owns nothing
abbrev pub IsSpent : View → Type 0
IsSpent v = v.joined ≡ true → v ≡ spent_view
