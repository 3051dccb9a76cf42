-- Helper: the headline does not rest on this file.
-- A client with more node slots than PUT, PUTNEW and DELETE lines is not refused for want of slots.
use Rattle.std.specs.Prelude.{◌≢◌, ℕ, ◌<◌, List, length, All}
use Rattle.bucket_terms.specs.declared.reply.Reply.TheVariants.{NoSlot}
use Rattle.bucket_terms.specs.declared.reply.Placed.{Placed}
use Rattle.bucket_terms.specs.LegalRun.{RequestLine, Run, IsLegal, lines_of, replies_of, slots_of}
use Rattle.bucket_terms.specs.RunParts.{updates_in}

-- none of these replies is a refusal for want of slots
abbrev pub NoneWantsSlots : List Placed → Type 0
NoneWantsSlots replies = All (λ (r : Placed). r.reply ≢ NoSlot) replies

-- in each legal run, a client with more node slots than requests that may make an update is not refused in this way
abbrev pub SlotsSufficeLaw : Type 0
SlotsSufficeLaw =
    (dir : List (List ℕ)) (parts : List (List RequestLine)) (slots : ℕ → ℕ) (run : Run) → IsLegal dir parts slots run
    → (c : ℕ) → c < length parts → updates_in (lines_of parts c) < slots c → NoneWantsSlots (replies_of run c)

-- and so no client is, if each has the slots that a session gives it
abbrev pub OwnSlotsSufficeLaw : Type 0
OwnSlotsSufficeLaw =
    (dir : List (List ℕ)) (parts : List (List RequestLine)) (run : Run) → IsLegal dir parts (slots_of parts) run
    → (c : ℕ) → c < length parts → NoneWantsSlots (replies_of run c)
