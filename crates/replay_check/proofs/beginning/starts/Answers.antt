use Rattle.std.proofs.Common.{◌≡◌, ℕ, zero, suc, ◌<◌, ◌+◌, ◌⊎◌, List, [], ◌∷◌, ◌++◌, Some, length, take, inl, inr, refl, sym, ap, ◌∙◌, subst, arith}
use Rattle.std.specs.List.{slice_get}
use Rattle.std.proofs.lemmas.Option.{same_Some, none-some}
use Rattle.std.proofs.lemmas.List.{length_push}
use Rattle.bucket_terms.specs.LegalRun.{lines_of}
use Rattle.request_lines.specs.declared.session.ClientPart.{ClientPart}
use Rattle.text_laws.specs.WrongLine.{requests_of}
use Rattle.replay_check.specs.declared.turns.Client.{Client}
use Rattle.replay_check.specs.Looking.{IsReadyOn, against}
use Rattle.replay_check.proofs.BasisLaws.{there, lines_long, first_few, inside, part_count}
use Rattle.text_laws.proofs.ReplyPlaces.{first_more}
use Rattle.replay_check.proofs.beginning.starts.Goals as goal
use Rattle.replay_check.proofs.beginning.starts.Goals.{After-len-first}

-- one more client
pushed : (xs : List Client) (x : Client) (k : ℕ) (y : Client) → slice_get (xs ++ x ∷ []) k ≡ Some y → (slice_get xs k ≡ Some y) ⊎ ((k ≡ length xs) × (x ≡ y))
pushed [] x zero y is = inr (refl, same_Some x y is)
pushed [] x (suc k) y is = absurd (none-some y is)
pushed (z ∷ xs) x zero y is = inl is
pushed (z ∷ xs) x (suc k) y is = elim (pushed xs x k y is) [ inl before ↦ inl before | inr last ↦ inr (ap suc last.0, last.1) ]

within : (c : After-len-first) → c.loop-number.number < length c.args.basis.now.session.now.clients
within c = let all = ap length c.as_slice-parts.ensures in omega arith

-- how many lines the client has
len_is : (c : After-len-first) → c.len-first.result ≡ length (lines_of (against c.args.basis.now).parts c.loop-number.number)
len_is c =
    let part = c.index-parts-number.result in
    let part_is = there c.args.basis.now.session.now.clients c.as_slice-parts.result.now c.loop-number.number part c.as_slice-parts.ensures (within c) c.index-parts-number.is in
    c.len-first.ensures ∙ ap (λ (p : ClientPart). length p.requests) (sym c.index-parts-number.is) ∙ sym (lines_long c.args.basis.now.session.now.clients c.loop-number.number part part_is)

pub overflow_add-first : goal.overflow_add-first
overflow_add-first c =
    let w = (goal.at.overflow_add-first c).After-len-first in
    let few = first_few c.args.basis.now c.requires c.loop-number.number (within w) in
    let len = len_is w in
    let first = c.loop-number.invariant.first in
    omega arith

pub loop-number-preserved : goal.loop-number-preserved
loop-number-preserved c =
    let w = (goal.at.loop-number-preserved c).After-len-first in
    let b = c.args.basis.now in
    let number = c.loop-number.number in
    let items : c.push.new.self.items ≡ c.loop-number.clients.items ++ c.start.result ∷ [] = c.in_ok-push.ensures.items in
    let count = c.loop-number.invariant.count in
    record {
      first =
          let len = len_is w in
          let first = c.loop-number.invariant.first in
          let more = first_more (against b).parts number (inside b c.requires number (within w)) in
          let step : number + 1 ≡ suc number = omega arith in
          let next : requests_of (take (number + 1) (against b).parts) ≡ requests_of (take (suc number) (against b).parts) =
          ap (λ (k : ℕ). requests_of (take k (against b).parts)) step in
          omega arith;
      count = let long = length_push c.loop-number.clients.items c.start.result in let same = ap length items in omega arith;
      each = λ k client is.
          elim (pushed c.loop-number.clients.items c.start.result k client (ap (λ (xs : List Client). slice_get xs k) (sym items) ∙ is)) [
            | inl before ↦ c.loop-number.invariant.each k client before
            | inr last ↦
                subst (IsReadyOn b k 0) last.1 (subst (λ (i : ℕ). IsReadyOn b i 0 c.start.result) (sym (last.0 ∙ count)) c.start.ensures)
          ];
    }

pub returns : goal.returns
returns c =
    let all = ap length c.as_slice-parts.ensures in
    let count = c.loop-number.invariant.count in
    let parts = part_count c.args.basis.now in
    record { count = omega arith; each = c.loop-number.invariant.each }
