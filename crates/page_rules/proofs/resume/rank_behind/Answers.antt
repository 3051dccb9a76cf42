use Rattle.std.proofs.Common.{◌≡◌, ℕ, ◌+◌, List, false, Some, sym, subst}
use Rattle.key_names.specs.Names.{name_at}
use Rattle.key_names.specs.Ranks.{is_before, is_upto_prefix, StandFirst}
use Rattle.bucket_terms.specs.declared.page.PageEntry.{PageEntry}
use Rattle.bucket_terms.specs.declared.page.PageEntry.TheVariants.{Group}
use Rattle.bucket_terms.specs.Listing.{group_text, entry_point}
use Rattle.bucket_terms.specs.PageInRange.{IsEntryInRange, IsGroupInRange}
use Rattle.page_rules.specs.Cursor.{GoesOnAt}
use Rattle.page_rules.specs.PageLaw.{entry_text}
use Rattle.page_rules.proofs.NextRank.{behind_key, behind_group}
use Rattle.page_rules.proofs.NameOrder.{begins_front}
use Rattle.page_rules.proofs.resume.rank_behind.Goals as goal

pub returns-in-Key : goal.returns-in-Key
returns-in-Key c =
    let dir = c.args.dir.now in
    let query = c.args.query.now in
    let below = subst (IsEntryInRange dir) c.in-Key.is c.requires.in_range in
    let high = subst (λ e. is_before (entry_text dir e) query.prefix ≡ false) c.in-Key.is c.requires.listed in
    rw c.from.ensures
    (subst (λ e. GoesOnAt dir query (Some (entry_point dir e)) (c.in-Key.rank + 1)) (sym c.in-Key.is)
    (behind_key dir query c.in-Key.rank c.len-names.ensures.rising below high))

-- the entry's name and the length of its group
group_in_range : (dir : List (List ℕ)) (entry : PageEntry) (rank len : ℕ) → entry ≡ Group rank len → IsEntryInRange dir entry → IsGroupInRange dir rank len
group_in_range dir entry rank len is within = subst (IsEntryInRange dir) is within

pub group_str-requires : goal.group_str-requires
group_str-requires c = group_in_range c.args.dir.now c.args.entry.now c.in-Group.rank c.in-Group.len c.in-Group.is c.requires.in_range

pub group_end-requires-clause-rank : goal.group_end-requires-clause-rank
group_end-requires-clause-rank c =
    rw c.from-in-Group.ensures (group_in_range c.args.dir.now c.args.entry.now c.in-Group.rank c.in-Group.len c.in-Group.is c.requires.in_range).below

pub group_end-requires-clause-begins : goal.group_end-requires-clause-begins
group_end-requires-clause-begins c =
    rw (c.from-in-Group.ensures, c.group_str.ensures) (begins_front c.in-Group.len (name_at c.args.dir.now c.in-Group.rank))

pub returns-in-Group : goal.returns-in-Group
returns-in-Group c =
    let dir = c.args.dir.now in
    let query = c.args.query.now in
    let group = group_text dir c.in-Group.rank c.in-Group.len in
    let high = subst (λ e. is_before (entry_text dir e) query.prefix ≡ false) c.in-Group.is c.requires.listed in
    let first = subst (λ g. StandFirst (λ name. is_upto_prefix name g) dir c.group_end.result) c.group_str.ensures c.group_end.ensures.first in
    subst (λ e. GoesOnAt dir query (Some (entry_point dir e)) c.group_end.result) (sym c.in-Group.is) (behind_group dir query group c.group_end.result c.group_end.ensures.within high first)
