-- The nodes that a search knows, by its parts.
use Rattle.std.proofs.Common.{◌≡◌, ℕ, List, [], ◌∷◌, ◌++◌, Bool, true, false, ◌||◌, eqb, refl, ap, ◌∙◌, sym}
use Rattle.std.specs.Prelude.{flat_map}
use Rattle.std.specs.List.{list_any}
use Rattle.index_words.specs.declared.view.reading.Reading.{Reading}
use Rattle.index_words.specs.declared.view.reading.Link.{Link}
use Rattle.key_map.specs.Lists.{has}
use Rattle.core_events.specs.Searches.{place_nodes, turn_nodes, link_nodes, search_nodes}

either_of : (a b c : Bool) → (a || (b || c)) ≡ ((a || b) || c)
either_of true b c = refl
either_of false b c = refl

-- a number stands in one of two lists
has-append : (k : ℕ) (xs ys : List ℕ) → has k (xs ++ ys) ≡ (has k xs || has k ys)
has-append k [] ys = refl
has-append k (x ∷ xs) ys = ap (λ b. eqb x k || b) (has-append k xs ys) ∙ either_of (eqb x k) (has k xs) (has k ys)

-- or in one of the lists of links
has-links : (k : ℕ) (ls : List Link) → has k (flat_map link_nodes ls) ≡ list_any (λ (l : Link). has k (link_nodes l)) ls
has-links k [] = refl
has-links k (l ∷ ls) = has-append k (link_nodes l) (flat_map link_nodes ls) ∙ ap (λ b. has k (link_nodes l) || b) (has-links k ls)

pub searched_is : (k : ℕ) (r : Reading) → (at left right link result : Bool) → at ≡ has k (place_nodes 0 r.place) → left ≡ has k (turn_nodes r.left_turn) → right ≡ has k (turn_nodes r.right_turn)
    → link ≡ list_any (λ (l : Link). has k (link_nodes l)) r.links → result ≡ (at || (left || (right || link))) → result ≡ has k (search_nodes 0 r)
searched_is k r at left right link result one two three four all =
    let turns = turn_nodes r.right_turn ++ flat_map link_nodes r.links in
    all ∙ ap (λ b. b || (left || (right || link))) one ∙ ap (λ b. has k (place_nodes 0 r.place) || (b || (right || link))) two
    ∙ ap (λ b. has k (place_nodes 0 r.place) || (has k (turn_nodes r.left_turn) || b)) (ap (λ b. b || link) three ∙ ap (λ b. has k (turn_nodes r.right_turn) || b) (four ∙ sym (has-links k r.links))
    ∙ sym (has-append k (turn_nodes r.right_turn) (flat_map link_nodes r.links)))
    ∙ ap (λ b. has k (place_nodes 0 r.place) || b) (sym (has-append k (turn_nodes r.left_turn) turns))
    ∙ sym (has-append k (place_nodes 0 r.place) (turn_nodes r.left_turn ++ turns))
