-- The answers of PUT, PUTNEW, DELETE and HEAD, by what the calls of the pass ensure.
use Rattle.std.proofs.Common.{◌≡◌, ℕ, zero, suc, All, MatchBool, length, get_or, ◌++◌, ◌+◌, ◌<◌, ◌≤◌, Bool, true, false, not, List, Option, Some, None, inl, inr, refl, sym, ap, ◌∙◌, subst, arith, ◌==◌, ◌&&◌}
use Rattle.std.proofs.lemmas.Bool.Decides.{nat_tests}
use Rattle.key_names.specs.Names.{IsRank}
use Rattle.key_map.specs.declared.pass.Done.{Done}
use Rattle.key_map.specs.declared.update.Change.TheVariants.{Put as PutVal, Remove}
use Rattle.key_map.specs.Map.{map_get, first_from, value_at}
use Rattle.key_map.specs.History.{after, own_places}
use Rattle.key_map.proofs.MapLaws.{map_get-first_from}
use Rattle.key_map.proofs.HistoryLaws.{IsMap-after}
use Rattle.bucket_terms.proofs.Finds.{map_get-absent, map_get-present}
use Rattle.bucket_terms.specs.declared.request.Request.{Request}
use Rattle.bucket_terms.specs.declared.request.Request.TheVariants.{Put as PutRequest, PutNew, Delete, Head}
use Rattle.bucket_terms.specs.declared.reply.Reply.{Reply}
use Rattle.bucket_terms.specs.declared.reply.Reply.TheVariants.{Put as PutReply, Exists, Deleted, Found, Missing, NoSlot}
use Rattle.bucket_terms.specs.RunParts.{head_by}
use Rattle.bucket_terms.specs.PassView.{PassView, KnowsOwn, MadePut, AnsweredRemoval, Removed, Inserted, LookedFor, Looked, Began, IsOutOfSlots, IsShort}
use Rattle.std.specs.List.{count_by, slice_get}
use Rattle.std.proofs.lemmas.Bool.{cases_lt, cases_Bool}
use Rattle.std.proofs.lemmas.List.{get_or_append_left}
use Rattle.std.proofs.lemmas.Option.{slice_get_within, slice_get-get_or, get_or_from_slice_get}
use Rattle.key_map.specs.declared.update.Update.{Update}
use Rattle.bucket_terms.specs.LegalRun.{Setting, IsRight, IsOf, update_at}
use Rattle.bucket_terms.specs.RunParts.{is_earlier_of}
use Rattle.client_run.specs.ClientRun.{setting, answered, Answers, IsLaterLine, is_of, has_own}
use Rattle.client_run.proofs.Places.{no_own_added}
use Rattle.client_run.proofs.Steps.{update_here, step_made, step_refused, step_looked}

-- a put was made
pub put_answers : (dir : List (List ℕ)) (old new : PassView) (last : Option Reply) (line key val : ℕ) (name : List ℕ) (done : Done)
    → KnowsOwn old → IsRank dir name key → MadePut old new line key val done
    → Answers dir old new last (answered line (PutRequest name val) (record { client = old.number; line = line; at = Some done.at; reply = PutReply done.was }))
put_answers dir old new last line key val name done knows rank made =
    let nodes : old.nodes ≤ new.nodes + 1 = grind (arith, nat_tests, made.nodes) in
    step_made dir old new last line key done.at (PutVal val) (PutRequest name val) (PutReply done.was) knows made.update refl (rank, refl)
    (λ slots. record { key = key; rank = rank; update = update_here dir old new line key done.at slots (PutVal val) made.update; before = made.was })
    nodes (λ e. cc) refl made.looks

-- an update was refused for want of slots
pub refused_answers : (dir : List (List ℕ)) (old new : PassView) (last : Option Reply) (line : ℕ) (request : Request)
    → KnowsOwn old → new ≡ old → old.opened ≡ None → IsOutOfSlots old
    → ((slots : ℕ) → (IsShort old → slots ≤ count_by (is_earlier_of (setting dir old slots) line) old.seen)
    → IsRight (setting dir old slots) last (record { line = line; request = request }) None NoSlot)
    → Answers dir old new last (answered line request (record { client = old.number; line = line; at = None; reply = NoSlot }))
refused_answers dir old new last line request knows same closed short right =
    step_refused dir old new last line request NoSlot knows same closed right (λ e. short.1) refl refl

-- a removal was answered
removed_answers : (dir : List (List ℕ)) (old new : PassView) (last : Option Reply) (line key : ℕ) (name : List ℕ) (done : Done)
    → KnowsOwn old → IsRank dir name key → Removed old new line key done
    → Answers dir old new last (answered line (Delete name) (record { client = old.number; line = line; at = Some done.at; reply = Deleted }))
removed_answers dir old new last line key name done knows rank removed =
    let here = update_here dir old new line key done.at 0 Remove removed.update in
    let own : has_own (setting dir new 0) line (Some done.at) ≡ true = rw here (grind (arith, nat_tests)) in
    step_made dir old new last line key done.at Remove (Delete name) Deleted knows removed.update refl (rank, refl)
    (λ slots. inl (record { key = key; rank = rank; update = update_here dir old new line key done.at slots Remove removed.update; before = sym removed.there }))
    (omega (arith, removed.nodes)) (λ e. cc) (ap not own) (rw own (omega (arith, removed.update.continues.looks)))

-- no update of the history is that of this line
none_of : (dir : List (List ℕ)) (old new : PassView) (line at slots : ℕ) → KnowsOwn old → Looked old new at → IsLaterLine old line
    → All (λ (u : Update). ¬ (IsOf (setting dir new slots) line u)) new.seen
none_of dir old new line at slots knows looked later = λ k d below is_of_line.
    let u = get_or new.seen k d in
    let own : u.client ≡ old.number = is_of_line.by ∙ looked.continues.number in
    let places : own_places old.number (old.seen ++ looked.continues.seen.0) ≡ own_places old.number old.seen =
    sym (ap (λ (us : List Update). own_places old.number us) looked.continues.seen.1)
    ∙ sym (ap (λ (n : ℕ). own_places n new.seen) looked.continues.number)
    ∙ sym looked.continues.mine ∙ looked.mine ∙ knows in
    elim (cases_lt k (length old.seen)) [
      | inl front ↦
          let same : u ≡ get_or old.seen k d = ap (λ (us : List Update). get_or us k d) looked.continues.seen.1 ∙ get_or_append_left old.seen looked.continues.seen.0 d k front in
          let earlier : (get_or old.seen k d).line < line = later k d front (sym (ap (λ (w : Update). w.client) same) ∙ own) in
          let line_is : (get_or old.seen k d).line ≡ line = sym (ap (λ (w : Update). w.line) same) ∙ is_of_line.for_line in
          absurd (omega arith)
      | inr back ↦
          no_own_added old.number old.seen looked.continues.seen.0 places k u back
          (sym (ap (λ (us : List Update). slice_get us k) looked.continues.seen.1) ∙ slice_get-get_or new.seen k d below) own
    ]

both_same : (a b c d : ℕ) → ((a == b) && (c == d)) ≡ true → (a ≡ b) × (c ≡ d)
both_same a b c d h = (grind (arith, nat_tests), grind (arith, nat_tests))

-- so no place has its own update
is_of-none : (s : Setting) (line at : ℕ) → All (λ (u : Update). ¬ (IsOf s line u)) s.updates → is_of s line (update_at s at) ≡ false
is_of-none s line zero none = refl
is_of-none s line (suc k) none = by_entry (slice_get s.updates k) refl
  where
    by_entry : (found : Option Update) → slice_get s.updates k ≡ found → is_of s line found ≡ false
    by_entry None e = refl
    by_entry (Some u) e =
        let below = slice_get_within s.updates k u e in
        let here = get_or_from_slice_get s.updates k u u e in
        let not_it : ¬ (IsOf s line u) = subst (λ (w : Update). ¬ (IsOf s line w)) here (none k u below) in
        elim (cases_Bool ((u.client == s.client) && (u.line == line))) [
          | inl same ↦ let both = both_same u.client s.client u.line line same in absurd (not_it (record { by = both.0; for_line = both.1 }))
          | inr other ↦ other
        ]

absent_answers : (dir : List (List ℕ)) (old new : PassView) (last : Option Reply) (line key at : ℕ) (name : List ℕ)
    → KnowsOwn old → IsRank dir name key → IsLaterLine old line → LookedFor old new key false at
    → Answers dir old new last (answered line (Delete name) (record { client = old.number; line = line; at = Some at; reply = Deleted }))
absent_answers dir old new last line key at name knows rank later found =
    let no_own = is_of-none (setting dir new 0) line at (none_of dir old new line at 0 knows found.looked later) in
    step_looked dir old new last line at (Delete name) Deleted knows found.looked found.closed
    (λ slots. inr (record { key = key; rank = rank; value = map_get-absent key (after new.seen at) found.tells }, none_of dir old new line at slots knows found.looked later))
    (λ e. cc) (ap not no_own) (rw no_own found.looks)

pub removal_answers : (dir : List (List ℕ)) (old new : PassView) (last : Option Reply) (line key : ℕ) (name : List ℕ) (done : Done)
    → KnowsOwn old → IsRank dir name key → IsLaterLine old line → AnsweredRemoval old new line key done
    → Answers dir old new last (answered line (Delete name) (record { client = old.number; line = line; at = Some done.at; reply = Deleted }))
removal_answers dir old new last line key name done knows rank later removal = by_was done.was refl removal
  where
    by_was : (was : Bool) → done.was ≡ was → MatchBool was (Removed old new line key done) (LookedFor old new key false done.at)
        → Answers dir old new last (answered line (Delete name) (record { client = old.number; line = line; at = Some done.at; reply = Deleted }))
    by_was true e removed = removed_answers dir old new last line key name done knows rank removed
    by_was false e found = absent_answers dir old new last line key done.at name knows rank later found

-- a put of a key that was not there was made
pub inserted_answers : (dir : List (List ℕ)) (old new : PassView) (last : Option Reply) (line key val at : ℕ) (name : List ℕ)
    → KnowsOwn old → IsRank dir name key → Inserted old new line key val at
    → Answers dir old new last (answered line (PutNew name val) (record { client = old.number; line = line; at = Some at; reply = PutReply false }))
inserted_answers dir old new last line key val at name knows rank made =
    step_made dir old new last line key at (PutVal val) (PutNew name val) (PutReply false) knows made.update refl (rank, refl)
    (λ slots. record { key = key; rank = rank; update = update_here dir old new line key at slots (PutVal val) made.update; before = sym made.absent })
    (omega (arith, made.nodes)) (λ e. cc) refl (omega (arith, made.update.continues.looks))

-- a put found its key there, and was not made
pub kept_answers : (dir : List (List ℕ)) (old new : PassView) (last : Option Reply) (line key val at : ℕ) (name : List ℕ)
    → KnowsOwn old → IsRank dir name key → IsLaterLine old line → LookedFor old new key true at
    → Answers dir old new last (answered line (PutNew name val) (record { client = old.number; line = line; at = Some at; reply = Exists }))
kept_answers dir old new last line key val at name knows rank later found =
    let there = map_get-present key (after new.seen at) found.tells in
    step_looked dir old new last line at (PutNew name val) Exists knows found.looked found.closed
    (λ slots. ((there.0, record { key = key; rank = rank; value = there.1 }), none_of dir old new line at slots knows found.looked later))
    (λ e. cc) refl found.looks

-- the view after the snapshot is closed
abbrev pub closed_view : PassView → PassView
closed_view pass = record pass { opened = None }

looked_closed : (old new : PassView) (at : ℕ) → Looked old new at → Looked old (closed_view new) at
looked_closed old new at looked = record {
  continues = record { number = looked.continues.number; seen = looked.continues.seen; mine = looked.continues.mine; looks = looked.continues.looks };
  found = looked.found;
  place = looked.place;
  mine = looked.mine;
  left = looked.left;
  nodes = looked.nodes;
  entries = looked.entries;
}

-- a head was answered in a snapshot that is closed again
pub head_answers : (dir : List (List ℕ)) (old opened new : PassView) (last : Option Reply) (line key at : ℕ) (name : List ℕ) (found : Option ℕ)
    → KnowsOwn old → IsRank dir name key → Began old opened at → new ≡ closed_view opened → found ≡ value_at key (first_from key (after opened.seen at))
    → Answers dir old new last (answered line (Head name) (record { client = old.number; line = line; at = Some at; reply = head_by found }))
head_answers dir old opened new last line key at name found knows rank began closed is_found =
    subst (λ (v : PassView). Answers dir old v last (answered line (Head name) (record { client = old.number; line = line; at = Some at; reply = head_by found }))) (sym closed)
    (by_value found (is_found ∙ sym (map_get-first_from key 0 (after opened.seen at) (IsMap-after opened.seen at))))
  where
    by_value : (val : Option ℕ) → val ≡ map_get key (after opened.seen at)
        → Answers dir old (closed_view opened) last (answered line (Head name) (record { client = old.number; line = line; at = Some at; reply = head_by val }))
    by_value None e =
        step_looked dir old (closed_view opened) last line at (Head name) Missing knows (looked_closed old opened at began.looked) refl
        (λ slots. record { key = key; rank = rank; value = sym e }) (λ e. cc) refl began.looks
    by_value (Some val) e =
        step_looked dir old (closed_view opened) last line at (Head name) (Found val) knows (looked_closed old opened at began.looked) refl
        (λ slots. record { key = key; rank = rank; value = sym e }) (λ e. cc) refl began.looks
