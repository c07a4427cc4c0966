-- What is noted of one call, and of one call more.
use Rattle.std.proofs.Common.{◌≡◌, ℕ, ◌+◌, ◌<◌, Bool, List, [], ◌∷◌, ◌++◌, length, get_or, drop, sym, ap, ◌∙◌, append_assoc}
use Rattle.std.proofs.lemmas.List.{at_drop_more, map_push}
use Rattle.item.specs.Kinds.{Kind}
use Rattle.item_set.specs.Slots.{anyone, shown}
use Rattle.item_set.specs.States.{State}
use Rattle.model.specs.Answers.{goes}
use Rattle.model.specs.Shrinking.{ScratchStep, with_scratch}
use Rattle.traces.specs.declared.Call.{Call}
use Rattle.traces.specs.declared.Event.{Event}
use Rattle.traces.specs.declared.Outcome.{Outcome}
use Rattle.traces.specs.Calls.{request_of, trace_of}
use Rattle.traces.specs.Logs.{outcome_of, entry_of, log_of}
use Rattle.traces.specs.Runs.{Entry, entered, respond, run, left}

abbrev pub tells : {T : Type 0} → Outcome T → List ℕ → List T → Entry T
tells o scratch standing = record { answer = outcome_of o; scratch = scratch; standing = standing }

-- the parts of an event that are those of a step tell the step's entry
pub noted : {T : Type 0} (o : Outcome T) (ws : List ℕ) (s : State T) (st : ScratchStep T) (scratch : List ℕ) (standing : List T) → scratch ≡ ws
    → standing ≡ shown anyone s.slots → with_scratch ws (goes s (outcome_of o)) ≡ st → tells o scratch standing ≡ entered st
noted o ws s st scratch standing same stands goes_on = ap (λ xs. tells o xs standing) same ∙ ap (tells o ws) stands ∙ ap entered goes_on

module _ {T K1 K2 P : Type 0} (keeps : P → T → Bool) (kind : Kind T K1 K2) (trace : List (Call T K1 K2 P)) (i : ℕ) (call : Call T K1 K2 P) (within : i < length trace) (is : call ≡ get_or trace i call) (s t : State T)
    (after : t ≡ (respond kind s (request_of keeps call)).step.after) where
  -- the calls from a place on: the one there, and the rest
  more : trace_of keeps (drop i trace) ≡ request_of keeps call ∷ trace_of keeps (drop (i + 1) trace)
  more = at_drop_more (trace_of keeps) trace i call within ∙ ap (λ x. request_of keeps x ∷ trace_of keeps (drop (i + 1) trace)) (sym is)

  pub left_more : (whole : State T) → left kind s (trace_of keeps (drop i trace)) ≡ whole → left kind t (trace_of keeps (drop (i + 1) trace)) ≡ whole
  left_more whole inv = ap (λ u. left kind u (trace_of keeps (drop (i + 1) trace))) after ∙ sym (ap (left kind s) more) ∙ inv

  pub run_more : (events later : List (Event T)) (event : Event T) (whole : List (Entry T)) → later ≡ events ++ event ∷ []
      → entry_of event ≡ entered (respond kind s (request_of keeps call)) → log_of events ++ run kind s (trace_of keeps (drop i trace)) ≡ whole
      → log_of later ++ run kind t (trace_of keeps (drop (i + 1) trace)) ≡ whole
  run_more events later event whole pushed entry inv =
      let rest = trace_of keeps (drop (i + 1) trace) in
      let st = respond kind s (request_of keeps call) in
      ap (λ es. log_of es ++ run kind t rest) pushed
      ∙ ap (λ es. es ++ run kind t rest) (map_push entry_of events event)
      ∙ append_assoc (log_of events) (entry_of event ∷ []) (run kind t rest)
      ∙ ap (λ e. log_of events ++ e ∷ run kind t rest) entry
      ∙ ap (λ u. log_of events ++ entered st ∷ run kind u rest) after
      ∙ sym (ap (λ cs. log_of events ++ run kind s cs) more) ∙ inv
