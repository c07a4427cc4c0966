-- One crossed call more.
use Rattle.std.proofs.Common.{◌≡◌, ℕ, ◌+◌, ◌<◌, Bool, List, [], ◌∷◌, ◌++◌, map, length, get_or, take, sym, ap, ◌∙◌}
use Rattle.std.proofs.lemmas.List.{take_more, map_push}
use Rattle.item.specs.declared.crossed.Crossed.{Crossed}
use Rattle.item.specs.declared.predicate.Inside.{Inside}
use Rattle.traces.specs.declared.Call.{Call}
use Rattle.traces.specs.Calls.{request_of, trace_of}
use Rattle.traces.specs.Laws.{cross}
use Rattle.agreement.specs.Inside.{keeps_inside}

module _ {T K1 K2 P : Type 0} (keeps : P → T → Bool) (trace : List (Call T K1 K2 P)) (i : ℕ) (call : Call T K1 K2 P) (within : i < length trace) (is : call ≡ get_or trace i call) where
  front : map cross (trace_of keeps (take (i + 1) trace)) ≡ map cross (trace_of keeps (take i trace)) ++ cross (request_of keeps call) ∷ []
  front =
      ap (λ cs. map cross (trace_of keeps cs)) (take_more trace i call within ∙ ap (λ x. take i trace ++ x ∷ []) (sym is))
      ∙ ap (map cross) (map_push (request_of keeps) (take i trace) call)
      ∙ map_push cross (trace_of keeps (take i trace)) (request_of keeps call)

  pub crossed_more : (calls later : List (Call (Crossed T) K2 K1 (Inside P))) (one : Call (Crossed T) K2 K1 (Inside P)) → later ≡ calls ++ one ∷ []
      → request_of (keeps_inside keeps) one ≡ cross (request_of keeps call) → trace_of (keeps_inside keeps) calls ≡ map cross (trace_of keeps (take i trace))
      → trace_of (keeps_inside keeps) later ≡ map cross (trace_of keeps (take (i + 1) trace))
  crossed_more calls later one pushed crosses inv =
      ap (trace_of (keeps_inside keeps)) pushed ∙ map_push (request_of (keeps_inside keeps)) calls one
      ∙ ap (λ x. trace_of (keeps_inside keeps) calls ++ x ∷ []) crosses
      ∙ ap (λ xs. xs ++ cross (request_of keeps call) ∷ []) inv ∙ sym front
