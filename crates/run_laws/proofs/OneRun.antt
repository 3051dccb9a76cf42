-- A client alone has one legal run.
use Rattle.std.proofs.Common.{◌≡◌, ℕ, ◌+◌, ◌<◌, List, [], ◌∷◌, length, get_or, refl, sym, ap, ◌∙◌, subst, arith, Option, Some, None, Any}
use Rattle.std.specs.List.{slice_get}
use Rattle.key_map.specs.declared.update.Update.{Update}
use Rattle.bucket_terms.specs.declared.list_query.ListQuery.{ListQuery}
use Rattle.bucket_terms.specs.declared.token_point.TokenPoint.{TokenPoint}
use Rattle.bucket_terms.specs.declared.token.Token.{Token}
use Rattle.bucket_terms.specs.declared.request.Request.{Request}
use Rattle.bucket_terms.specs.declared.request.Request.TheVariants.{Put, PutNew, Delete, Head, List as ListRequest, ListV1, Next}
use Rattle.bucket_terms.specs.declared.reply.Reply.{Reply}
use Rattle.bucket_terms.specs.declared.reply.Placed.{Placed}
use Rattle.bucket_terms.specs.LegalRun.{RequestLine, Setting, IsMadeBy, IsPointOf, AreAnswered, answered_lines, lines_of, replies_of}
use Rattle.bucket_terms.specs.RunParts.{setting_of}
use Rattle.page_token.proofs.OneTokenLaws.{one_token}
use Rattle.sample_laws.proofs.Ranks.{no_token}
use Rattle.sample_laws.proofs.Places.{AreMadeBy, front_start}
use Rattle.sample_laws.proofs.Steps.{updates_counted}
use Rattle.run_laws.specs.Alone.{IsResolved, Outcome, outcome_on, placed_as, later_listing, AreAlone}
use Rattle.run_laws.specs.OneRun.{AloneLaw, OneRunLaw}
use Rattle.run_laws.proofs.AloneAnswers.{whole, alone}

-- ---- one run

same_point : (query : ListQuery) (p q : Option TokenPoint) → IsPointOf query p → IsPointOf query q → p ≡ q
same_point query None None h k = refl
same_point query None (Some b) h k = absurd (no_token (record { point = b; bound = k.0 }) query.token h k.1.1)
same_point query (Some a) None h k = absurd (no_token (record { point = a; bound = h.0 }) query.token k h.1.1)
same_point query (Some a) (Some b) h k =
    ap (λ (t : Token). Some t.point) (one_token query.token (record { point = a; bound = h.0 }) (record { point = b; bound = k.0 }) h.1.1 k.1.1)

same_start : (request : Request) (x y : Option (Option TokenPoint)) → IsResolved request x → IsResolved request y → x ≡ y
same_start (ListRequest query) (Some p) (Some q) h k = ap Some (same_point query p q h k)
same_start (ListRequest query) (Some p) None h k = absurd (k p h)
same_start (ListRequest query) None (Some q) h k = absurd (h q k)
same_start (ListRequest query) None None h k = refl
same_start (Put name val) x y h k = h ∙ sym k
same_start (PutNew name val) x y h k = h ∙ sym k
same_start (Delete name) x y h k = h ∙ sym k
same_start (Head name) x y h k = h ∙ sym k
same_start (ListV1 query) x y h k = h ∙ sym k
same_start Next x y h k = h ∙ sym k

pub one_alone : (dir : List (List ℕ)) (client : ℕ) (us : List Update) (last : Option Reply) (lines : List RequestLine) (rs rs' : List Placed) (end end' : List Update)
    → AreAlone dir client us last lines rs end → AreAlone dir client us last lines rs' end' → (rs ≡ rs') × (end ≡ end')
one_alone dir client us last [] [] [] end end' h k = (refl, h ∙ sym k)
one_alone dir client us last [] [] (r ∷ rs') end end' h k = absurd k
one_alone dir client us last [] (r ∷ rs) rs' end end' h k = absurd h
one_alone dir client us last (l ∷ lines) [] rs' end end' h k = absurd h
one_alone dir client us last (l ∷ lines) (r ∷ rs) [] end end' h k = absurd k
one_alone dir client us last (l ∷ lines) (r ∷ rs) (r' ∷ rs') end end' h k =
    let out : Option (Option TokenPoint) → Outcome = λ start. outcome_on dir client us last l.line l.request start in
    let same : k.0 ≡ h.0 = same_start l.request k.0 h.0 k.1.0 h.1.0 in
    let other : (r' ≡ placed_as client l.line (out h.0)) × AreAlone dir client (out h.0).updates (later_listing l.request (out h.0).reply last) lines rs' end' =
    subst (λ (start : Option (Option TokenPoint)). (r' ≡ placed_as client l.line (out start)) × AreAlone dir client (out start).updates (later_listing l.request (out start).reply last) lines rs' end') same k.1.1 in
    let rest = one_alone dir client (out h.0).updates (later_listing l.request (out h.0).reply last) lines rs rs' end end' h.1.1.1 other.1 in
    (ap (λ (first : Placed). first ∷ rs) (h.1.1.0 ∙ sym other.0) ∙ ap (λ (more : List Placed). r' ∷ more) rest.0, rest.1)

one_list : (lists : List (List Placed)) → length lists ≡ 1 → lists ≡ get_or lists 0 [] ∷ []
one_list [] one = absurd (omega arith)
one_list (x ∷ []) one = refl
one_list (x ∷ y ∷ lists) one = absurd (omega arith)

pub alone_law : AloneLaw
alone_law dir lines slots run rising roomy legal =
    let s : Setting = setting_of dir run slots 0 in
    let mine : (i : ℕ) (u : Update) → slice_get run.updates i ≡ Some u → u.client ≡ 0 = λ i u here. let below : u.client < 1 = (legal.made i u here).0 in omega arith in
    let made : AreMadeBy s (answered_lines lines (replies_of run 0)) =
    λ i u here own. subst (λ (c : ℕ). Any (IsMadeBy dir u (i + 1)) (answered_lines (lines_of (lines ∷ []) c) (replies_of run c))) own (legal.made i u here).1 in
    let answered : AreAnswered s [] lines (replies_of run 0) = legal.answered 0 (omega arith) in
    let counted = updates_counted s [] lines (replies_of run 0) 0 answered front_start made in
    let all = ap (length {A = Update}) (whole s rising mine) in
    let few : length run.updates < slots 0 = omega arith in
    (one_list run.replies legal.clients, alone s rising mine few [] lines (replies_of run 0) 0 front_start (omega arith) answered made)

pub one_run : OneRunLaw
one_run dir lines slots a b rising roomy of_a of_b =
    let first = alone_law dir lines slots a rising roomy of_a in
    let second = alone_law dir lines slots b rising roomy of_b in
    let same = one_alone dir 0 [] None lines (replies_of a 0) (replies_of b 0) a.updates b.updates first.1 second.1 in
    ap (λ (us : List Update). record { updates = us; replies = a.replies }) same.1
    ∙ ap (λ (lists : List (List Placed)). record { updates = b.updates; replies = lists }) (first.0 ∙ ap (λ (rs : List Placed). rs ∷ []) same.0 ∙ sym second.0)
