-- Printed acts are read back.
use Rattle.std.proofs.Common.{◌≡◌, ℕ, Bool, true, false, ◌&&◌, nat_le, List, [], ◌∷◌, ◌++◌, codes, length, map, Option, Some, refl, sym, ap, ◌∙◌, append_assoc, append-nil}
use Rattle.std.proofs.lemmas.Bool.{and_parts}
use Rattle.std.specs.List.{list_all}
use Rattle.ps_world.specs.Names.{Table, name_text}
use Rattle.ps_world.specs.Texts.{args_text}
use Rattle.ps_world.specs.declared.names.Name.{Name}
use Rattle.ps_action.specs.declared.acts.Act.{Act}
use Rattle.ps_machine.specs.Texts.{act_text, acts_text}
use Rattle.ps_text.specs.Names.{AreNames}
use Rattle.ps_text.specs.Words.{goes_on, words}
use Rattle.ps_entries.specs.Words.{name_of}
use Rattle.ps_entries.specs.Forms.{is_act, is_known}
use Rattle.ps_entries.specs.Events.{acts_from}
use Rattle.ps_entries.proofs.KnownNames.{name_of-text}
use Rattle.ps_entries.proofs.HeadWords.{is_run-name, no_close, no_open, words-before}
use Rattle.ps_entries.proofs.PrintedCauses.{known-of}

module _ (t : Table) (names : AreNames t) where
  abbrev known : Name → Bool
  known = is_known (length t)

  -- the text of arguments begins no longer word
  apart : (args : List Name) (rest : List ℕ) → goes_on (args_text t args ++ 41 ∷ rest) ≡ false
  apart [] rest = refl
  apart (n ∷ ns) rest = refl

  args-words : (args : List Name) (rest : List ℕ) → list_all known args ≡ true → words (args_text t args ++ 41 ∷ rest) ≡ map (name_text t) args ++ codes ")" ∷ words rest
  args-words [] rest h = refl
  args-words (n ∷ ns) rest h =
      let parts = and_parts (known n) (list_all known ns) h in
      ap words (ap (λ text. 32 ∷ text) (append_assoc (name_text t n) (args_text t ns) (41 ∷ rest)))
      ∙ words-before (name_text t n) (args_text t ns ++ 41 ∷ rest) (is_run-name t n names (known-of (length t) n parts.0)) (apart ns rest)
      ∙ ap (λ more. name_text t n ∷ more) (args-words ns rest parts.1)

  -- what is told after these acts, by words whose names are of the table
  abbrev told : List Act → List Name → List (List ℕ) → Option (List Act)
  told acts since ws = acts_from acts since ws (map (name_of t) ws)

  told-name : (acts : List Act) (since : List Name) (n : Name) (ws : List (List ℕ)) → known n ≡ true → told acts since (name_text t n ∷ ws) ≡ told acts (since ++ n ∷ []) ws
  told-name acts since n ws h =
      let lt = known-of (length t) n h in
      let run = is_run-name t n names lt in
      rw (no_open (name_text t n) run, no_close (name_text t n) run, name_of-text t n names lt) refl

  told-args : (acts : List Act) (since args : List Name) (ws : List (List ℕ)) → list_all known args ≡ true → told acts since (map (name_text t) args ++ ws) ≡ told acts (since ++ args) ws
  told-args acts since [] ws h = ap (λ names. told acts names ws) (sym (append-nil since))
  told-args acts since (n ∷ ns) ws h =
      let parts = and_parts (known n) (list_all known ns) h in
      told-name acts since n (map (name_text t) ns ++ ws) parts.0
      ∙ told-args acts (since ++ n ∷ []) ns ws parts.1
      ∙ ap (λ names. told acts names ws) (append_assoc since (n ∷ []) ns)

  act-words : (act : Act) (rest : List ℕ) → is_act (length t) act ≡ true → words (act_text t act ++ rest) ≡ codes "(" ∷ name_text t act.action ∷ (map (name_text t) act.args ++ codes ")" ∷ words rest)
  act-words act rest h =
      let parts = and_parts (known act.action && list_all known act.args) (nat_le (length act.args) 6) h in
      let both = and_parts (known act.action) (list_all known act.args) parts.0 in
      let flat : act_text t act ++ rest ≡ codes " (" ++ (name_text t act.action ++ (args_text t act.args ++ 41 ∷ rest)) =
      ap (λ text. codes " (" ++ text) (append_assoc (name_text t act.action) (args_text t act.args ++ codes ")") rest ∙ ap (λ text. name_text t act.action ++ text) (append_assoc (args_text t act.args) (codes ")") rest)) in
      ap words flat
      ∙ ap (λ more. codes "(" ∷ more)
      (words-before (name_text t act.action) (args_text t act.args ++ 41 ∷ rest) (is_run-name t act.action names (known-of (length t) act.action both.0)) (apart act.args rest)
      ∙ ap (λ more. name_text t act.action ∷ more) (args-words act.args rest both.1))

  told-act : (acts : List Act) (act : Act) (ws : List (List ℕ)) → is_act (length t) act ≡ true
      → told acts [] (codes "(" ∷ name_text t act.action ∷ (map (name_text t) act.args ++ codes ")" ∷ ws)) ≡ told (acts ++ act ∷ []) [] ws
  told-act acts act ws h =
      let parts = and_parts (known act.action && list_all known act.args) (nat_le (length act.args) 6) h in
      let both = and_parts (known act.action) (list_all known act.args) parts.0 in
      told-name acts [] act.action (map (name_text t) act.args ++ codes ")" ∷ ws) both.0
      ∙ told-args acts (act.action ∷ []) act.args (codes ")" ∷ ws) both.1
      ∙ rw parts.1 refl

  told-acts : (done acts : List Act) → list_all (is_act (length t)) acts ≡ true → told done [] (words (acts_text t acts)) ≡ Some (done ++ acts)
  told-acts done [] h = ap Some (sym (append-nil done))
  told-acts done (act ∷ acts) h =
      let parts = and_parts (is_act (length t) act) (list_all (is_act (length t)) acts) h in
      ap (told done []) (act-words act (acts_text t acts) parts.0)
      ∙ told-act done act (words (acts_text t acts)) parts.0
      ∙ told-acts (done ++ act ∷ []) acts parts.1
      ∙ ap Some (append_assoc done (act ∷ []) acts)

  -- printed acts are told by their words
  pub told-plan : (acts : List Act) → list_all (is_act (length t)) acts ≡ true → told [] [] (words (acts_text t acts)) ≡ Some acts
  told-plan acts h = told-acts [] acts h
