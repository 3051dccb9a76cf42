-- What the lines of a block say, as far as they were read.
use Rattle.std.proofs.Common.{◌≡◌, ℕ, List, [], ◌∷◌, ◌++◌, Option, Some, refl, sym, ap, subst, ◌∙◌, append_assoc}
use Rattle.std.specs.Borrow.{Bor}
use Rattle.request_lines.specs.InputParts.{texts_of, texts_left}
use Rattle.line_grammar.specs.declared.cause.Cause.{Cause}
use Rattle.line_grammar.specs.declared.command.Command.{Command}
use Rattle.request_lines.specs.Said.{SaysLine, SayInTurn, AreFirst}

-- the lines up to those that are left say these commands
pub record IsSaidUpTo (texts left : List (List ℕ)) (commands : List (Option Command)) : Type 0 where
  pub front : List (List ℕ)
  pub all : texts ≡ front ++ left
  pub say : SayInTurn front commands

pub said_start : (texts : List (List ℕ)) → IsSaidUpTo texts texts []
said_start texts = record { front = []; all = refl; say = tt }

-- one more line at the end
say_push : (texts : List (List ℕ)) (commands : List (Option Command)) (text : List ℕ) (command : Option Command) → SayInTurn texts commands → SaysLine text command
    → SayInTurn (texts ++ text ∷ []) (commands ++ command ∷ [])
say_push [] [] text command say says = (says, tt)
say_push [] (c ∷ commands) text command say says = elim say [ ]
say_push (t ∷ texts) [] text command say says = elim say [ ]
say_push (t ∷ texts) (c ∷ commands) text command say says = (say.0, say_push texts commands text command say.1 says)

pub said_more : (texts : List (List ℕ)) (text : List ℕ) (left : List (List ℕ)) (commands : List (Option Command)) (command : Option Command)
    → IsSaidUpTo texts (text ∷ left) commands → SaysLine text command → IsSaidUpTo texts left (commands ++ command ∷ [])
said_more texts text left commands command said says = record {
  front = said.front ++ text ∷ [];
  all = said.all ∙ sym (append_assoc said.front (text ∷ []) left);
  say = say_push said.front commands text command said.say says;
}

-- the lines that are left, of which this is the first
pub said_next : (texts : List (List ℕ)) (left rest : Option (Bor (List ℕ))) (lines : Bor (List ℕ)) (text : List ℕ) (commands : List (Option Command)) → left ≡ Some lines
    → texts_of lines.now ≡ text ∷ texts_left rest → IsSaidUpTo texts (texts_left left) commands → IsSaidUpTo texts (text ∷ texts_left rest) commands
said_next texts left rest lines text commands is cut said =
    let P : List (List ℕ) → Type 0 = λ behind. IsSaidUpTo texts behind commands in
    subst P (ap texts_left is ∙ cut) said

-- ---- the first lines of others

pub first_cut : (lines : Option (Bor (List ℕ))) (texts front left : List (List ℕ)) (cause : Option Cause) → (are : AreFirst lines texts cause) → texts_left lines ≡ front ++ left
    → texts ≡ front ++ (left ++ are.after)
first_cut lines texts front left cause are cut =
    are.all ∙ ap (λ (all : List (List ℕ)). all ++ are.after) cut ∙ append_assoc front left are.after
