-- The texts of members, file by file.
use Rattle.std.proofs.Common.{◌≡◌, ℕ, ◌+◌, ◌<◌, Result, Ok, Err, List, [], ◌∷◌, ◌++◌, drop, length, map, append_assoc, slice_index_or, sym, ap, ◌∙◌, subst, arith}
use Rattle.std.proofs.lemmas.List.{append-nil, drop_all, drop_more, map-append}
use Rattle.std.specs.Borrow.{Bor}
use Rattle.std.specs.Global.{Vec}
use Rattle.ps_world.specs.declared.failures.Failure.{Failure}
use Rattle.ps_world.specs.declared.failures.Failure.TheVariants.{OutOfMemory}
use Rattle.ps_text.specs.Outside.{FilesView}
use Rattle.ps_inputs.specs.Reading.{Reading, Texts, and_then, read_file}
use Rattle.ps_inputs.specs.Reading.Reading.{gives}
use Rattle.ps_inputs.specs.Faults.{ReadsPart}
use Rattle.ps_inputs.specs.Input.{named_texts}
use Rattle.ps_inputs.specs.Members.{NamedText}
use Rattle.ps_inputs.specs.Parts.{ReadsMembers, ReadsText, named}
use Rattle.ps_inputs.specs.declared.faults.Fault.{Fault}
use Rattle.ps_inputs.specs.declared.reading.members.MemberText.{MemberText}
use Rattle.ps_inputs.proofs.ReadParts.{out_of_memory, read_nothing, then_ended, then_read}

-- the texts are those that were read before, and these
abbrev pub IsAfter : List MemberText → List NamedText → Vec MemberText → Type 0
IsAfter before texts v = map named v.items ≡ map named before ++ texts

-- reading these files, where so many texts were read before
abbrev ReadsRest : List (List ℕ) → FilesView → FilesView → List MemberText → Result (Vec MemberText) (Failure Fault) → Type 0
ReadsRest rest now new before r = ReadsPart (named_texts now.told rest) now new (IsAfter before) r

-- ---- one file

-- what the other files lead to
abbrev with_rest : List ℕ → List (List ℕ) → Texts → List ℕ → Reading (List NamedText)
with_rest file rest told text = and_then (named_texts told rest) (λ more. gives [] (record { file = file; text = text } ∷ more))

same_named : (one : MemberText) (file text : List ℕ) → one.file.items ≡ file → one.text.items ≡ text → named one ≡ record { file = file; text = text }
same_named one file text e f = λ i. record { file = e i; text = f i }

-- a text more
joined : (before : List MemberText) (one : MemberText) (file text : List ℕ) (more : List NamedText) (all : Vec MemberText) → one.file.items ≡ file → one.text.items ≡ text → IsAfter (before ++ one ∷ []) more all → IsAfter before (record { file = file; text = text } ∷ more) all
joined before one file text more all e f is =
    is ∙ (ap (λ (ts : List NamedText). ts ++ more) (map-append named before (one ∷ []))
    ∙ (append_assoc (map named before) (named one ∷ []) more
    ∙ ap (λ (t : NamedText). map named before ++ t ∷ more) (same_named one file text e f)))

module _ (file : List ℕ) (rest : List (List ℕ)) (now new : FilesView) (before : List MemberText) where
  -- the file wasn't read
  text_unread : (why : Failure Fault) → ReadsText file now new (Err why) → ReadsRest (file ∷ rest) now new before (Err why)
  text_unread why h = then_ended (read_file now.told file) (with_rest file rest now.told) now new why h

  others_read : (one : MemberText) (text : List ℕ) (r : Result (Vec MemberText) (Failure Fault)) → one.file.items ≡ file → one.text.items ≡ text → ReadsRest rest now new (before ++ one ∷ []) r → ReadsPart (with_rest file rest now.told text) now new (IsAfter before) r
  others_read one text (Ok all) e f h =
      then_read (named_texts now.told rest) (λ told more. gives [] (record { file = file; text = text } ∷ more)) now new new all (Ok all) h
      (λ more is. read_nothing new (record { file = file; text = text } ∷ more) all (joined before one file text more all e f is))
  others_read one text (Err why) e f h =
      then_ended (named_texts now.told rest) (λ more. gives [] (record { file = file; text = text } ∷ more)) now new why h

-- the file was read, and then the others
text_read : (file : List ℕ) (rest : List (List ℕ)) (now middle new : FilesView) (before : List MemberText) (one : MemberText) (v : Vec ℕ) (r : Result (Vec MemberText) (Failure Fault)) → one.file.items ≡ file → one.text.items ≡ v.items → ReadsText file now middle (Ok v) → ReadsRest rest middle new (before ++ one ∷ []) r → ReadsRest (file ∷ rest) now new before r
text_read file rest now middle new before one v r e f h g =
    then_read (read_file now.told file) (with_rest file rest) now middle new v r h
    (λ text is. others_read file rest middle new before one text r e (f ∙ is) g)

-- ---- the loop

-- the names of files behind these words
abbrev pub files_of : List (Bor (List ℕ)) → List (List ℕ)
files_of members = map (λ m. m.now) members

-- What the other files come to from here, all come to from the first.
abbrev pub Follows : List (Bor (List ℕ)) → ℕ → FilesView → FilesView → List MemberText → Type 0
Follows members i old now before =
    (new : FilesView) (r : Result (Vec MemberText) (Failure Fault)) → ReadsRest (files_of (drop i members)) now new before r → ReadsMembers (files_of members) old new r

module _ (members : List (Bor (List ℕ))) (i : ℕ) (d : Bor (List ℕ)) (file : List ℕ) (lt : i < length members) (here : file ≡ (slice_index_or members i d).now) (old now : FilesView) (before : List MemberText) (follows : Follows members i old now before) where
  files_more : files_of (drop i members) ≡ file ∷ files_of (drop (i + 1) members)
  files_more = ap files_of (drop_more members i d lt) ∙ ap (λ (f : List ℕ). f ∷ files_of (drop (i + 1) members)) (sym here)

  follows_here : (new : FilesView) (r : Result (Vec MemberText) (Failure Fault)) → ReadsRest (file ∷ files_of (drop (i + 1) members)) now new before r → ReadsMembers (files_of members) old new r
  follows_here new r h = follows new r (subst (λ (fs : List (List ℕ)). ReadsRest fs now new before r) (sym files_more) h)

  -- a file isn't read
  pub member_unread : (new : FilesView) (why : Failure Fault) → ReadsText file now new (Err why) → ReadsMembers (files_of members) old new (Err why)
  member_unread new why h = follows_here new (Err why) (text_unread file (files_of (drop (i + 1) members)) now new before why h)

  -- memory runs out after a file is read
  pub member_starved : (new : FilesView) (v : Vec ℕ) → ReadsText file now new (Ok v) → ReadsMembers (files_of members) old new (Err OutOfMemory)
  member_starved new v h =
      follows_here new (Err OutOfMemory) (out_of_memory (named_texts now.told (file ∷ files_of (drop (i + 1) members))) now new h.failed h.same)

  -- a file is read
  pub member_read : (middle : FilesView) (one : MemberText) (v : Vec ℕ) (more : List MemberText) → one.file.items ≡ file → one.text.items ≡ v.items → more ≡ before ++ one ∷ [] → ReadsText file now middle (Ok v) → Follows members (i + 1) old middle more
  member_read middle one v more e f pushed h new r g =
      follows_here new r
      (text_read file (files_of (drop (i + 1) members)) now middle new before one v r e f h
      (subst (λ (ms : List MemberText). ReadsRest (files_of (drop (i + 1) members)) middle new ms r) pushed g))

-- all files are read
pub members_read : (members : List (Bor (List ℕ))) (i : ℕ) (old now : FilesView) (all : Vec MemberText) → i ≡ length members → Follows members i old now all.items → ReadsMembers (files_of members) old now (Ok all)
members_read members i old now all e follows =
    let none : files_of (drop i members) ≡ [] = ap files_of (drop_all i members (omega (arith, e))) in
    follows now (Ok all)
    (subst (λ (fs : List (List ℕ)). ReadsRest fs now now all.items (Ok all)) (sym none) (read_nothing now [] all (sym (append-nil (map named all.items)))))
