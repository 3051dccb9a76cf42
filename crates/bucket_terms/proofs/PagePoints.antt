-- The point after the last entry of a page.
use Rattle.std.proofs.Common.{◌≡◌, ℕ, zero, suc, ◌-◌, true, List, [], ◌∷◌, length, None, Some, refl, sym, ap, ◌∙◌, arith}
use Rattle.std.specs.List.{slice_get, last_or}
use Rattle.std.specs.Option.{option_map}
use Rattle.bucket_terms.specs.declared.page.PageEntry.{PageEntry}
use Rattle.bucket_terms.specs.declared.page.Page.{Page}
use Rattle.bucket_terms.specs.Listing.{entry_point, page_point}
use Rattle.bucket_terms.specs.PageParts.{last_point}

pub last_point-at : (dir : List (List ℕ)) (entries : List PageEntry) (k : ℕ) (e : PageEntry) → length entries ≡ suc k → Some e ≡ slice_get entries k
    → last_point dir entries ≡ Some (entry_point dir e)
last_point-at dir [] k e n h = absurd (omega arith)
last_point-at dir (x ∷ []) zero e n h = let same : e ≡ x = cc in ap (λ y. Some (entry_point dir y)) (sym same)
last_point-at dir (x ∷ []) (suc k) e n h = absurd (omega arith)
last_point-at dir (x ∷ y ∷ entries) zero e n h = absurd (omega arith)
last_point-at dir (x ∷ y ∷ entries) (suc k) e n h = last_point-at dir (y ∷ entries) k e (omega arith) h

last_point-last : (dir : List (List ℕ)) (entries : List PageEntry) (e : PageEntry) → Some e ≡ slice_get entries (length entries - 1)
    → last_point dir entries ≡ Some (entry_point dir e)
last_point-last dir [] e h = cc
last_point-last dir (x ∷ entries) e h =
    let at : suc (length entries) - 1 ≡ length entries = omega arith in
    last_point-at dir (x ∷ entries) (length entries) e refl (rw at at h)

pub last_point-is : (dir : List (List ℕ)) (entries : List PageEntry) → last_point dir entries ≡ option_map (entry_point dir) (last_or None entries)
last_point-is dir [] = refl
last_point-is dir (e ∷ []) = refl
last_point-is dir (e ∷ f ∷ entries) = last_point-is dir (f ∷ entries)

-- the point of a truncated page is that of its last entry
pub page_point-truncated : (dir : List (List ℕ)) (page : Page) (e : PageEntry) → page.truncated ≡ true → Some e ≡ slice_get page.entries (length page.entries - 1)
    → page_point dir page ≡ Some (entry_point dir e)
page_point-truncated dir page e truncated last =
    ap (λ b. page_point dir (record page { truncated = b })) truncated ∙ sym (last_point-is dir page.entries) ∙ last_point-last dir page.entries e last
