-- Lines that are taken by what they say, one after another.
use Rattle.std.proofs.Common.{◌≡◌, ℕ, zero, suc, ◌+◌, ◌^◌, ◌<◌, ◌≤◌, Bool, true, false, List, [], ◌∷◌, ◌++◌, length, take, drop, get_or, Option, Some, None, Result, Ok, Err, refl, sym, ap, subst, ◌∙◌, append_assoc, inl, inr, arith, length-append}
use Rattle.std.specs.Prelude.{◌==◌, if◌then◌else◌}
use Rattle.std.specs.Borrow.{Bor}
use Rattle.std.proofs.lemmas.List.{drop_more, drop_all, take-append-drop, append-nil, drop-drop}
use Rattle.line_grammar.specs.declared.cause.Cause.{Cause}
use Rattle.line_grammar.specs.declared.command.Command.{Command}
use Rattle.line_grammar.specs.declared.line_error.LineError.{LineError}
use Rattle.line_grammar.specs.declared.line_error.LineError.TheVariants as faults
use Rattle.request_lines.specs.declared.session_error.InputError.{InputError}
use Rattle.request_lines.specs.declared.session_error.SessionError.{SessionError}
use Rattle.request_lines.specs.declared.session_error.SessionError.TheVariants as errors
use Rattle.line_grammar.specs.Fine.{IsFineCommand}
use Rattle.line_grammar.specs.Line.{reading_of}
use Rattle.request_lines.specs.InputParts.{error_at, texts_of}
use Rattle.request_lines.specs.Reading.{Progress, taken, error_of_text, session_error, Takes, KeepsReading, Reaches, Meets, TakesAll}
use Rattle.request_lines.specs.declared.said.Said.{Said}
use Rattle.request_lines.specs.Said.{said_of, SaysLine, SayInTurn, StopsAt, Says, texts_in}
use Rattle.line_grammar.proofs.Fine.{IsFineReading, reading_fine}

-- ---- one line

-- an empty line says nothing, and another one what is read of it
says_empty : (text : List ℕ) (b : Bool) → (length text == 0) ≡ b → (if b then None else Some (reading_of text)) ≡ None → b ≡ true
says_empty text true is none = refl
says_empty text false is none = cc

says_full : (text : List ℕ) (b : Bool) (reading : Result Command Cause) → (length text == 0) ≡ b → (if b then None else Some (reading_of text)) ≡ Some reading
    → (b ≡ false) × (reading_of text ≡ reading)
says_full text true reading is some = cc
says_full text false reading is some = (refl, cc)

full_line : (text : List ℕ) (reading : Result Command Cause) → said_of text ≡ Some reading → ((length text == 0) ≡ false) × (reading_of text ≡ reading)
unfolding said_of
full_line text reading says = says_full text (length text == 0) reading refl says

-- an empty line is taken, and changes nothing
pub takes_empty : (p : Progress) (number : ℕ) (text : List ℕ) → SaysLine text None → Takes p number text p (Ok tt)
unfolding said_of taken error_of_text
takes_empty p number text says =
    let empty : (length text == 0) ≡ true = says_empty text (length text == 0) refl says in
    (rw empty refl, rw empty refl)

-- a line that says a command is taken as the command is
pub takes_command : (p : Progress) (number : ℕ) (text : List ℕ) (command : Command) (after : Progress) → SaysLine text (Some command)
    → KeepsReading p number (Ok command) after (Ok tt) → Takes p number text after (Ok tt)
unfolding taken error_of_text
takes_command p number text command after says keeps =
    let full = full_line text (Ok command) says in
    (rw (full.0, full.1) (ap (error_at number) keeps.0), rw (full.0, full.1) keeps.1)

pub refuses_command : (p : Progress) (number : ℕ) (text : List ℕ) (command : Command) (after : Progress) (e : LineError) → SaysLine text (Some command)
    → KeepsReading p number (Ok command) after (Err e) → Takes p number text after (Err (session_error number e))
unfolding error_of_text
refuses_command p number text command after (faults.Faulty cause) says keeps =
    let full = full_line text (Ok command) says in
    rw (full.0, full.1) (ap (error_at number) keeps)
refuses_command p number text command after faults.NoMemory says keeps = tt

-- what a line says is fine
pub says_fine : (text : List ℕ) (command : Command) → SaysLine text (Some command) → IsFineCommand command
says_fine text command says = subst IsFineReading (full_line text (Ok command) says).1 (reading_fine text)

-- a line with a cause of its own is refused, whatever came before it
stops : (p : Progress) (number : ℕ) (text : List ℕ) (cause : Cause) → said_of text ≡ Some (Err cause) → error_of_text p number text ≡ Some (record { line = number; cause = cause })
unfolding error_of_text
stops p number text cause says =
    let full = full_line text (Err cause) says in
    rw (full.0, full.1) refl

-- ---- several lines

module _ (q : Progress) where
  reaches_append : (p r : Progress) (number : ℕ) (xs ys : List (List ℕ)) → Reaches p number xs q → Reaches q (number + length xs) ys r → Reaches p number (xs ++ ys) r
  reaches_append p r number [] ys first second =
      let same : number + length {A = List ℕ} [] ≡ number = omega arith in
      subst (λ (n : ℕ). Reaches p n ys r) same (subst (λ (now : Progress). Reaches now (number + length {A = List ℕ} []) ys r) first second)
  reaches_append p r number (x ∷ xs) ys first second =
      let next : number + length (x ∷ xs) ≡ number + 1 + length xs = omega arith in
      (first.0, reaches_append (taken p number x) r (number + 1) xs ys first.1 (subst (λ (n : ℕ). Reaches q n ys r) next second))

  meets_append : (p : Progress) (number : ℕ) (xs ys : List (List ℕ)) (e : InputError) → Reaches p number xs q → Meets q (number + length xs) ys e → Meets p number (xs ++ ys) e
  meets_append p number [] ys e first second =
      let same : number + length {A = List ℕ} [] ≡ number = omega arith in
      subst (λ (n : ℕ). Meets p n ys e) same (subst (λ (now : Progress). Meets now (number + length {A = List ℕ} []) ys e) first second)
  meets_append p number (x ∷ xs) ys e first second =
      let next : number + length (x ∷ xs) ≡ number + 1 + length xs = omega arith in
      inr (first.0, meets_append (taken p number x) (number + 1) xs ys e first.1 (subst (λ (n : ℕ). Meets q n ys e) next second))

-- a cause that is met in the first lines is met
meets_front : (p : Progress) (number : ℕ) (xs ys : List (List ℕ)) (e : InputError) → Meets p number xs e → Meets p number (xs ++ ys) e
meets_front p number [] ys e met = elim met [ ]
meets_front p number (x ∷ xs) ys e met =
    elim met [
      | inl here ↦ inl here
      | inr later ↦ inr (later.0, meets_front (taken p number x) (number + 1) xs ys e later.1)
    ]

-- ---- the commands of a block

say_length : (texts : List (List ℕ)) (commands : List (Option Command)) → SayInTurn texts commands → length texts ≡ length commands
say_length [] [] say = refl
say_length [] (c ∷ commands) say = elim say [ ]
say_length (t ∷ texts) [] say = elim say [ ]
say_length (t ∷ texts) (c ∷ commands) say = ap suc (say_length texts commands say.1)

pub say_at : (texts : List (List ℕ)) (commands : List (Option Command)) (i : ℕ) (d : List ℕ) (e : Option Command) → SayInTurn texts commands → i < length commands
    → SaysLine (get_or texts i d) (get_or commands i e)
say_at [] [] i d e say lt = absurd (omega arith)
say_at [] (c ∷ commands) i d e say lt = elim say [ ]
say_at (t ∷ texts) [] i d e say lt = elim say [ ]
say_at (t ∷ texts) (c ∷ commands) zero d e say lt = say.0
say_at (t ∷ texts) (c ∷ commands) (suc i) d e say lt = say_at texts commands i d e say.1 (omega arith)

-- there is a line for each command, and one more where a cause was found
pub says_few : (texts : List (List ℕ)) (said : Said) → Says texts said → length said.commands.items ≤ length texts
says_few texts said says = omega (arith, ap length says.all, length-append says.front says.after, say_length says.front said.commands.items says.commands)

pub says_fewer : (texts : List (List ℕ)) (said : Said) (cause : Cause) → Says texts said → said.cause ≡ Some cause → length said.commands.items < length texts
says_fewer texts said cause says is =
    omega (arith, ap length says.all, length-append says.front says.after, say_length says.front said.commands.items says.commands, some_after says.after said.cause is says.cause)
  where
    some_after : (behind : List (List ℕ)) (o : Option Cause) → o ≡ Some cause → StopsAt behind o → 0 < length behind
    some_after [] o is stops = cc
    some_after (text ∷ texts) o is stops = omega arith

-- ---- lines that are taken part by part

-- of these lines, which have so many before them, the first were taken, up to this number, and these are left
pub record AreTakenUpTo (p : Progress) (before : ℕ) (texts left : List (List ℕ)) (number : ℕ) (after : Progress) : Type 0 where
  pub front : List (List ℕ)
  pub all : texts ≡ front ++ left
  pub count : number ≡ before + length front
  pub reached : Reaches p (before + 1) front after

pub taken_start : (p : Progress) (before : ℕ) (texts : List (List ℕ)) → AreTakenUpTo p before texts texts before p
taken_start p before texts = record { front = []; all = refl; count = omega arith; reached = refl }

pub taken_end : (p after : Progress) (before : ℕ) (texts : List (List ℕ)) (number : ℕ) → AreTakenUpTo p before texts [] number after → TakesAll p before texts after (Ok number)
taken_end p after before texts number taken =
    let same : taken.front ≡ texts = sym (taken.all ∙ append-nil taken.front) in
    (taken.count ∙ ap (λ (ts : List (List ℕ)). before + length ts) same, subst (λ (ts : List (List ℕ)). Reaches p (before + 1) ts after) same taken.reached)

-- the lines that are left begin with these
module _ {p q : Progress} {before number : ℕ} {texts left : List (List ℕ)} (block behind : List (List ℕ)) (cut : left ≡ block ++ behind) (taken : AreTakenUpTo p before texts left number q) where
  whole : texts ≡ taken.front ++ (block ++ behind)
  whole = taken.all ∙ ap (λ (more : List (List ℕ)). taken.front ++ more) cut

  next : number + 1 ≡ before + 1 + length taken.front
  next = omega (arith, taken.count)

  pub taken_few : before + length texts < 2 ^ 32 → number + length block < 2 ^ 32
  taken_few few = omega (arith, few, taken.count, ap length whole, length-append taken.front (block ++ behind), length-append block behind)

  -- they are refused
  pub taken_refused : (after : Progress) (e : SessionError) → TakesAll q number block after (Err e) → TakesAll p before texts after (Err e)
  taken_refused after errors.NoMemory refused = tt
  taken_refused after (errors.Input e) refused =
      subst (λ (all : List (List ℕ)). Meets p (before + 1) all e) (sym whole)
      (meets_append q p (before + 1) taken.front (block ++ behind) e taken.reached
      (meets_front q (before + 1 + length taken.front) block behind e (subst (λ (n : ℕ). Meets q n block e) next refused)))

  -- or taken
  pub taken_more : (after : Progress) (count : ℕ) → TakesAll q number block after (Ok count) → AreTakenUpTo p before texts behind count after
  taken_more after count took = record {
    front = taken.front ++ block;
    all = whole ∙ sym (append_assoc taken.front block behind);
    count = omega (arith, took.0, taken.count, length-append taken.front block);
    reached = reaches_append q p after (before + 1) taken.front block taken.reached (subst (λ (n : ℕ). Reaches q n block after) next took.1);
  }

-- ---- the lines of a block, of which each says a command

-- the line at a place is the first of those that are left
line_left : (front behind : List (List ℕ)) (commands : List (Option Command)) (i : ℕ) → SayInTurn front commands → i < length commands
    → drop i front ++ behind ≡ get_or front i [] ∷ (drop (i + 1) front ++ behind)
line_left front behind commands i say lt = ap (λ (lines : List (List ℕ)). lines ++ behind) (drop_more front i [] (omega (arith, say_length front commands say)))

module _ {p q : Progress} {before number : ℕ} (after : Progress) (front behind : List (List ℕ)) (commands : List (Option Command)) (i : ℕ) (d : Option Command) (say : SayInTurn front commands)
    (lt : i < length commands) (taken : AreTakenUpTo p before (front ++ behind) (drop i front ++ behind) number q) where
  -- it is refused
  pub line_refused : (e : SessionError) → ((text : List ℕ) → SaysLine text (get_or commands i d) → Takes q (number + 1) text after (Err e)) → TakesAll p before (front ++ behind) after (Err e)
  line_refused e takes =
      taken_refused (get_or front i [] ∷ []) (drop (i + 1) front ++ behind) (line_left front behind commands i say lt) taken after e (refuses e (takes (get_or front i []) (say_at front commands i [] d say lt)))
    where
      refuses : (e : SessionError) → Takes q (number + 1) (get_or front i []) after (Err e) → TakesAll q number (get_or front i [] ∷ []) after (Err e)
      refuses errors.NoMemory refused = tt
      refuses (errors.Input e) refused = inl refused

  -- or taken
  pub line_taken : ((text : List ℕ) → SaysLine text (get_or commands i d) → Takes q (number + 1) text after (Ok tt)) → AreTakenUpTo p before (front ++ behind) (drop (i + 1) front ++ behind) (number + 1) after
  line_taken takes =
      taken_more (get_or front i [] ∷ []) (drop (i + 1) front ++ behind) (line_left front behind commands i say lt) taken after (number + 1) (omega arith, takes (get_or front i []) (say_at front commands i [] d say lt))

-- all of them were taken
module _ (p q : Progress) (before number i : ℕ) (texts : List (List ℕ)) (said : Said) (says : Says texts said) (all : i ≡ length said.commands.items)
    (taken : (front behind : List (List ℕ)) → SayInTurn front said.commands.items → AreTakenUpTo p before (front ++ behind) (drop i front ++ behind) number q) where
  left : AreTakenUpTo p before texts says.after number q
  left =
      let none = drop_all i says.front (omega (arith, all, say_length says.front said.commands.items says.commands)) in
      let whole = subst (λ (lines : List (List ℕ)). AreTakenUpTo p before (says.front ++ says.after) (lines ++ says.after) number q) none (taken says.front says.after says.commands) in
      subst (λ (ts : List (List ℕ)). AreTakenUpTo p before ts says.after number q) (sym says.all) whole

  -- and there are no more
  pub takes_all : said.cause ≡ None → TakesAll p before texts q (Ok number)
  takes_all none = at_end says.after left (subst (StopsAt says.after) none says.cause)
    where
      at_end : (behind : List (List ℕ)) → AreTakenUpTo p before texts behind number q → StopsAt behind None → TakesAll p before texts q (Ok number)
      at_end [] left stops = taken_end p q before texts number left
      at_end (t ∷ behind) left stops = elim stops [ ]

  -- or the next one has a cause of its own
  pub stops_after : (after : Progress) (cause : Cause) → said.cause ≡ Some cause → TakesAll p before texts after (Err (session_error (number + 1) (faults.Faulty cause)))
  stops_after after cause is = at_end says.after left (subst (StopsAt says.after) is says.cause)
    where
      at_end : (behind : List (List ℕ)) → AreTakenUpTo p before texts behind number q → StopsAt behind (Some cause) → TakesAll p before texts after (Err (session_error (number + 1) (faults.Faulty cause)))
      at_end [] left here = cc
      at_end (t ∷ behind) left here = taken_refused (t ∷ []) behind refl left after (session_error (number + 1) (faults.Faulty cause)) (inl (stops q (number + 1) t cause here))

-- ---- the blocks of a round

-- the lines of the blocks, cut at a round of them
texts_append : (xs ys : List (Bor (List ℕ))) → texts_in (xs ++ ys) ≡ texts_in xs ++ texts_in ys
texts_append [] ys = refl
texts_append (x ∷ xs) ys = ap (λ (more : List (List ℕ)). texts_of x.now ++ more) (texts_append xs ys) ∙ sym (append_assoc (texts_of x.now) (texts_in xs) (texts_in ys))

pub round_cut : (blocks round : List (Bor (List ℕ))) (done : ℕ) → round ≡ take (length round) (drop done blocks)
    → texts_in (drop done blocks) ≡ texts_in round ++ texts_in (drop (done + length round) blocks)
round_cut blocks round done whole =
    let left = drop done blocks in
    ap texts_in (sym (take-append-drop (length round) left)) ∙ texts_append (take (length round) left) (drop (length round) left)
    ∙ ap (λ (bs : List (Bor (List ℕ))). texts_in bs ++ texts_in (drop (length round) left)) (sym whole)
    ∙ ap (λ (bs : List (Bor (List ℕ))). texts_in round ++ texts_in bs) (drop-drop (length round) done blocks)

-- a block of some
pub block_of : (blocks : List (Bor (List ℕ))) → 0 < length blocks → Bor (List ℕ)
block_of [] some = absurd (omega arith)
block_of (block ∷ blocks) some = block
