-- Where a client's reply lines stand in a text.
use Rattle.std.proofs.Common.{◌≡◌, ℕ, ◌+◌, ◌<◌, ◌≤◌, List, [], length, drop, get_or, ◌∙◌, arith}
use Rattle.std.specs.Borrow.{Bor}
use Rattle.std.proofs.lemmas.List.{get_or-take, get_or-drop, get_or-map, length-take, length-drop}
use Rattle.bucket_terms.specs.LegalRun.{lines_of}
use Rattle.text_laws.specs.WrongLine.{Checked, reply_texts, first_reply}
use Rattle.text_laws.specs.WrongParts.{HasAllParts, text_at}
use Rattle.text_laws.proofs.ReplyPlaces.{first_within}
use Rattle.replay_check.specs.Looking.{texts_of}

module _ (c : Checked) (texts : List (List ℕ)) (number : ℕ) where
  pub text_is : (n : ℕ) → n < length (lines_of c.parts number) → text_at (reply_texts c texts number) n ≡ text_at texts (first_reply c number + n)
  text_is n inside =
      get_or-take (length (lines_of c.parts number)) (drop (first_reply c number) texts) n [] inside ∙ get_or-drop (first_reply c number) texts n []

  module _ (long : HasAllParts c texts) (within : number < length c.parts) where
    pub line_within : (n : ℕ) → n < length (lines_of c.parts number) → first_reply c number + n < length texts
    line_within n inside = let most = first_within c.parts number within in omega arith

    pub reply_within : (n : ℕ) → n < length (lines_of c.parts number) → n < length (reply_texts c texts number)
    reply_within n inside =
        let most = first_within c.parts number within in
        omega (arith, length-take (length (lines_of c.parts number)) (drop (first_reply c number) texts), length-drop (first_reply c number) texts)

  pub few_replies : length (reply_texts c texts number) ≤ length (lines_of c.parts number)
  few_replies = omega (arith, length-take (length (lines_of c.parts number)) (drop (first_reply c number) texts))

pub text_there : (lines : List (Bor (List ℕ))) (n : ℕ) (d : Bor (List ℕ)) → n < length lines → text_at (texts_of lines) n ≡ (get_or lines n d).now
text_there lines n d inside = get_or-map (λ (line : Bor (List ℕ)). line.now) lines n d [] inside
