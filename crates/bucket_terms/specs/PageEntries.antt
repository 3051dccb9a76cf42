-- Helper: the headline does not rest on this file.
-- The entries of a page as they are kept.
use Rattle.std.specs.Prelude.{List, ◌++◌, map}
use Rattle.bucket_terms.specs.declared.page.PageEntry.{PageEntry}
use Rattle.bucket_terms.specs.declared.page.PageEntry.TheVariants.{Key}
use Rattle.bucket_terms.specs.declared.page_entries.ShortKey.{ShortKey}

abbrev pub key_entry : ShortKey → PageEntry
key_entry k = Key k.rank k.val

-- keys in short form, followed by the other entries
abbrev pub entries_kept : List ShortKey → List PageEntry → List PageEntry
entries_kept keys rest = map key_entry keys ++ rest
