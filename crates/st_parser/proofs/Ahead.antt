-- What a scan has found, one token further on.
use Rattle.std.proofs.Common.{◌≡◌, ℕ, ◌+◌, ◌<◌, ◌≤◌, Bool, true, false, List, [], ◌∷◌, Option, Some, None, Result, Ok, Err, refl, ap, sym, ◌∙◌, drop, length, get_or}
use Rattle.std.proofs.lemmas.List.{drop_more, drop_all}
use Rattle.st_base.specs.declared.tokens.Token.{Token}
use Rattle.st_base.specs.declared.tokens.LexFault.{LexFault}
use Rattle.st_base.specs.declared.faults.Reason.{Reason}
use Rattle.st_parser.specs.declared.scan_state.Now.{Now}
use Rattle.st_parser.specs.declared.scan_state.Held.{Held}
use Rattle.st_parser.specs.declared.stop.ParseStop.{ParseStop}
use Rattle.st_parser.specs.declared.stop.ParseStop.TheVariants.{Fault, OutOfMemory}
use Rattle.st_parser.specs.Scan.{apply_turn, turn_at, ends_at}
use Rattle.st_parser.specs.Finding.{fault_from, fault_at, fault_or, fault_here, fault_end, Found, Passes, Stops, is_out_of_range, class_at}

module _ (text : List ℕ) (spoiled : Option LexFault) (tokens : List Token) where
  pub next_fault : (n : Now) (hs : List Held) (i : ℕ) (t d : Token) → i < length tokens → t ≡ get_or tokens i d
      → fault_from text spoiled n hs (drop i tokens) ≡ fault_at (is_out_of_range n t) t (apply_turn (turn_at n (class_at text t)) hs) (λ n' hs'. fault_from text spoiled n' hs' (drop (i + 1) tokens))
  next_fault n hs i t d h e = ap (fault_from text spoiled n hs) (drop_more tokens i d h) ∙ ap (λ x. fault_from text spoiled n hs (x ∷ drop (i + 1) tokens)) (sym e)

  pub passed : (n n' : Now) (hs hs' : List Held) (i : ℕ) (t d : Token) → i < length tokens → t ≡ get_or tokens i d
      → apply_turn (turn_at n (class_at text t)) hs ≡ Some (n', hs') → fault_here (is_out_of_range n t) (length hs') ≡ None
      → fault_from text spoiled n hs (drop i tokens) ≡ fault_from text spoiled n' hs' (drop (i + 1) tokens)
  passed n n' hs hs' i t d h e go free =
      next_fault n hs i t d h e
      ∙ ap (λ m. fault_at (is_out_of_range n t) t m (λ n' hs'. fault_from text spoiled n' hs' (drop (i + 1) tokens))) go
      ∙ ap (λ r. fault_or t.start r (fault_from text spoiled n' hs' (drop (i + 1) tokens))) free

  pub stopped : (n : Now) (hs hs' : List Held) (i : ℕ) (t d : Token) (stop : ParseStop) → i < length tokens → t ≡ get_or tokens i d
      → Passes (is_out_of_range n t) t (apply_turn (turn_at n (class_at text t)) hs) (Err stop) hs'
      → Stops (fault_from text spoiled n hs (drop i tokens)) stop
  stopped n hs hs' i t d (Fault byte reason) h e p = next_fault n hs i t d h e ∙ p (λ n' hs'. fault_from text spoiled n' hs' (drop (i + 1) tokens))
  stopped n hs hs' i t d OutOfMemory h e p = tt

  pub at_end : (n : Now) (hs : List Held) (i : ℕ) → length tokens ≤ i → fault_from text spoiled n hs (drop i tokens) ≡ fault_end (length text) spoiled (ends_at n hs)
  at_end n hs i h = ap (fault_from text spoiled n hs) (drop_all i tokens h)
