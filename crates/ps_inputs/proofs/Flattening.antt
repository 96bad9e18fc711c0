-- A script with its files, line by line.
use Rattle.std.proofs.Common.{◌≡◌, ℕ, suc, ◌+◌, ◌<◌, ◌≤◌, inl, inr, Bool, true, false, if◌then◌else◌, nat_lt, Option, None, Result, Ok, Err, List, [], ◌∷◌, ◌++◌, length, map, drop, get_or, slice_range, refl, sym, ap, ◌∙◌, subst, append_assoc, arith}
use Rattle.std.proofs.Common.{drop-cons}
use Rattle.std.proofs.Math.Seq.{drop-length}
use Rattle.std.proofs.lemmas.Bool.Decides.{nat_tests}
use Rattle.std.proofs.lemmas.List.{append-nil, length-append, map-append}
use Rattle.std.specs.Global.{Vec}
use Rattle.ps_world.specs.Names.{Table}
use Rattle.ps_world.specs.declared.failures.Failure.{Failure}
use Rattle.ps_world.specs.declared.failures.Failure.TheVariants.{Refused, OutOfMemory}
use Rattle.ps_machine.specs.declared.inputs.LineCause.TheVariants.{Nest}
use Rattle.ps_machine.specs.declared.inputs.Command.TheVariants.{RunPlan as RunPlanLine}
use Rattle.ps_machine.specs.declared.inputs.Line.{Line}
use Rattle.ps_machine.specs.declared.inputs.Line.TheVariants.{Good, Bad}
use Rattle.ps_action.specs.declared.acts.PlanStep.{PlanStep}
use Rattle.ps_action.specs.declared.refusals.PlanTextRefusal.{PlanTextRefusal}
use Rattle.ps_text.specs.Outside.{FilesView}
use Rattle.ps_text.specs.ScriptLines.{script_lines}
use Rattle.ps_text.specs.Words.{pieces}
use Rattle.ps_text.specs.declared.spans.Span.{Span}
use Rattle.ps_script.specs.Files.{is_run_plan}
use Rattle.ps_script.specs.Kinds.{IsKind}
use Rattle.ps_script.specs.Lines.{IsRead}
use Rattle.ps_script.specs.Lines.IsRead.{nothing, source, source_nothing, run_plan, run_nothing, without_class, without_number, without_form, without_shape, good}
use Rattle.ps_script.specs.declared.kinds.Kind.TheVariants.{Command}
use Rattle.ps_script.specs.declared.reading.Read.{Read}
use Rattle.ps_script.specs.declared.reading.Read.TheVariants as reads
use Rattle.ps_inputs.specs.Reading.{MayFail, Reading, Texts, and_then, most_lines, read_file}
use Rattle.ps_inputs.specs.Reading.FileFault.{too_many}
use Rattle.ps_inputs.specs.Reading.Reading.{gives, faulty}
use Rattle.ps_inputs.specs.Flats.{Flat, Flattened, followed, is_quit, no_line, on_source, plain_line, plan_line, step, walk, with_room}
use Rattle.ps_inputs.specs.Flats.Flattened.{plain, with_plan, too_deep}
use Rattle.ps_edit_words.specs.Words.{edit_word}
use Rattle.ps_inputs.specs.Scripts.{IsScript, ends_script, plan_in, word_of}
use Rattle.ps_inputs.specs.Scripts.IsScript.{nothing as no_script, one_more}
use Rattle.ps_edit_words.specs.declared.words.EditWord.{EditWord}
use Rattle.ps_inputs.specs.Faults.{ReadsPart}
use Rattle.ps_inputs.specs.Parts.{Adds, HasRoom, IsAdded, Opens, PutsDeep, PutsLine, PutsPlain, PutsPlan, PutsReadPlan, ReadsText, ReadsFileLine, Walks, WalksLines, count_of, with_names}
use Rattle.ps_inputs.specs.declared.reading.scripts.Script.{Script}
use Rattle.ps_inputs.specs.declared.faults.Fault.{Fault}
use Rattle.ps_inputs.specs.declared.faults.Fault.TheVariants.{Usage, NoDomain, NoMember, Crowd, Twice, TooLong, Lines, Unread}
use Rattle.ps_inputs.proofs.LineKinds.{said_by}
use Rattle.ps_inputs.proofs.QuitLines.{ends_where_quit}
use Rattle.ps_inputs.proofs.ReadParts.{read_nothing, then_ended, then_read}

-- ---- scripts

-- one script after another
pub scripts_join : (a b c : Table) (xs ys : List Flattened) (ls ms : List Line) → IsScript a xs ls b → IsScript b ys ms c → IsScript a (xs ++ ys) (ls ++ ms) c
scripts_join a b _ xs _ ls _ h no_script =
    subst (λ (fs : List Flattened). IsScript a fs (ls ++ []) b) (sym (append-nil xs)) (subst (λ (ms : List Line). IsScript a xs ms b) (sym (append-nil ls)) h)
scripts_join a b c xs _ ls _ h (one_more before lines table one new _ g adds) =
    subst (λ (fs : List Flattened). IsScript a fs (ls ++ (lines ++ new)) c) (append_assoc xs before (one ∷ []))
    (subst (λ (ms : List Line). IsScript a ((xs ++ before) ++ one ∷ []) ms c) (append_assoc ls lines new)
    (one_more (xs ++ before) (ls ++ lines) table one new c (scripts_join a b table xs before ls lines h g) adds))

-- a command line is read as a line
pub command_read : (t : Table) (bytes : List ℕ) (r : Read) (after : Table) → IsKind bytes Command → IsRead t bytes r after → (line : Line) × (r ≡ reads.Line line)
command_read t bytes r after h read =
    elim read as (λ r a i. (line : Line) × (r ≡ reads.Line line)) [
      | nothing e ↦ absurd (cc (h.0, e))
      | source file some is e ↦ elim h.1 [ inl n ↦ absurd (cc (n.1, e)) | inr n ↦ absurd (cc (n.0, is)) ]
      | source_nothing some is e ↦ (_, refl)
      | run_plan file some other is e ↦ elim h.1 [
        | inl n ↦ absurd (cc (n.0, other))
        | inr n ↦ elim n.1 [ inl m ↦ absurd (cc (m, is)) | inr m ↦ absurd (cc (m, e)) ]
      ]
      | run_nothing some other is e ↦ (_, refl)
      | without_class at p f ↦ (_, refl)
      | without_number at p f ↦ (_, refl)
      | without_form tokens p are f ↦ (_, refl)
      | without_shape form tokens ls after at is words judged ↦ (_, refl)
      | good form tokens ls after ts command is e s c ↦ (_, refl)
    ]

-- ---- one command line

-- there is room for it
room_read : {B : Type 0} {P : Flat → B → Type 0} (n : ℕ) (part : Reading Flat) (old new : FilesView) (r : Result B (Failure Fault)) → n < most_lines → ReadsPart part old new P r → ReadsPart (with_room n part) old new P r
room_read {P = P} n part old new r lt h =
    let b : true ≡ nat_lt n most_lines = grind (arith, nat_tests) in
    subst (λ (t : Bool). ReadsPart (if t then part else faulty [] (too_many (n + 1))) old new P r) b h

-- there is none
no_room : (n : ℕ) (part : Reading Flat) → n ≤ most_lines → most_lines ≤ n → MayFail (with_room n part) (too_many (most_lines + 1))
no_room n part le ge =
    let b : false ≡ nat_lt n most_lines = grind (arith, nat_tests) in
    let e : n + 1 ≡ most_lines + 1 = omega arith in
    subst (λ (t : Bool). MayFail (if t then part else faulty [] (too_many (n + 1))) (too_many (most_lines + 1))) b (ap too_many e)

pub full : {B : Type 0} {P : Flat → B → Type 0} (n : ℕ) (part : Reading Flat) (files : FilesView) (why : Failure Fault) → n ≤ most_lines → HasRoom n (Err why) → ReadsPart (with_room n part) files files P (Err why)
full n part files (Refused Usage) le h = absurd h
full n part files (Refused (NoDomain cause)) le h = absurd h
full n part files (Refused (NoMember file cause)) le h = absurd h
full n part files (Refused Crowd) le h = absurd h
full n part files (Refused (Twice name)) le h = absurd h
full n part files (Refused (TooLong file)) le h = absurd h
full n part files (Refused Lines) le h = record { given = tt; ended = no_room n part le h; failed = refl; same = refl }
full n part files (Refused (Unread file)) le h = absurd h
full n part files OutOfMemory le h = absurd h

-- one line more is few enough
more_few : (before after : Script) (new : List Line) → count_of before < most_lines → after.lines.items ≡ before.lines.items ++ new → length new ≡ 1 → length after.lines.items ≤ most_lines
more_few before after new lt e one = omega (arith, ap length e, length-append before.lines.items new, one)

-- a command line is read
pub line_added : (bytes : List ℕ) (line : Line) (before after : Script) (ends : Bool) → ends ≡ ends_script line → count_of before < most_lines → after.names ≡ before.names → after.lines.items ≡ before.lines.items ++ line ∷ [] → after.words.items ≡ before.words.items ++ edit_word bytes ∷ [] → PutsLine bytes line before after (Ok ends)
line_added bytes line before after ends e lt same pushed words names read files =
    let flat : Flat = record { lines = plain bytes ∷ []; ended = is_quit bytes } in
    let here : IsRead names bytes (reads.Line line) after.names = subst (λ (t : Table). IsRead names bytes (reads.Line line) t) (sym same) read in
    let added : IsAdded (with_names names before) after flat ends = record {
      lines = line ∷ [];
      read = one_more [] [] names (plain bytes) (line ∷ []) after.names no_script (line, here, refl);
      added = pushed;
      words = words;
      count = refl;
      few = more_few before after (line ∷ []) lt pushed refl;
      ends = sym (e ∙ ends_where_quit names bytes line before.names read);
    } in
    room_read (count_of before) (gives [] flat) files files (Ok ends) lt (read_nothing files flat ends added)

-- a line stands too deep
pub deep_added : (before after : Script) → count_of before < most_lines → after.names ≡ before.names → after.lines.items ≡ before.lines.items ++ Bad Nest ∷ [] → after.words.items ≡ before.words.items ++ None ∷ [] → PutsDeep before after (Ok false)
deep_added before after lt same pushed words files =
    let flat : Flat = record { lines = too_deep ∷ []; ended = false } in
    let added : IsAdded before after flat false = record {
      lines = Bad Nest ∷ [];
      read = one_more [] [] before.names too_deep (Bad Nest ∷ []) after.names no_script (refl, same);
      added = pushed;
      words = words;
      count = refl;
      few = more_few before after (Bad Nest ∷ []) lt pushed refl;
      ends = refl;
    } in
    room_read (count_of before) (gives [] flat) files files (Ok false) lt (read_nothing files flat false added)

-- ---- a line that runs the plan in a file

-- what its file leads to
abbrev with_its_plan : List ℕ → List ℕ → Reading Flat
with_its_plan bytes plan = gives [] (record { lines = with_plan bytes plan ∷ []; ended = false })

pub plan_added : (file : List ℕ) (old new : FilesView) (before after : Script) (v : Vec ℕ) (plan : Result (List PlanStep) PlanTextRefusal) → count_of before < most_lines → ReadsText file old new (Ok v) → plan_in before.names v.items ≡ (plan, after.names) → after.lines.items ≡ before.lines.items ++ Good (RunPlanLine plan) ∷ [] → after.words.items ≡ before.words.items ++ None ∷ [] → PutsReadPlan file old new before after (Ok false)
plan_added file old new before after v plan lt text names pushed words bytes first read =
    let here = Good (RunPlanLine plan) ∷ [] in
    let of : (t : List ℕ) → v.items ≡ t → (plan, after.names) ≡ plan_in before.names t = λ t e. sym names ∙ ap (plan_in before.names) e in
    let added : (t : List ℕ) → v.items ≡ t → IsAdded (with_names first before) after (record { lines = with_plan bytes t ∷ []; ended = false }) false = λ t e. record {
      lines = here;
      read = one_more [] [] first (with_plan bytes t) here after.names no_script
          (reads.RunPlan file, before.names, read, ap (λ p. Good (RunPlanLine p.0) ∷ []) (of t e), ap (λ p. p.1) (of t e));
      added = pushed;
      words = words;
      count = refl;
      few = more_few before after here lt pushed refl;
      ends = refl;
    } in
    room_read (count_of before) (and_then (read_file old.told file) (with_its_plan bytes)) old new (Ok false) lt
    (then_read (read_file old.told file) (λ t plan. with_its_plan bytes plan) old new new v (Ok false) text
    (λ t e. read_nothing new (record { lines = with_plan bytes t ∷ []; ended = false }) false (added t e)))

-- ---- a file

module _ (levels : ℕ) (file : List ℕ) (old : FilesView) (before after : Script) (r : Result Bool (Failure Fault)) where
  -- no more files may be opened
  pub opens_deep : levels ≡ 0 → PutsDeep before after r → Opens levels file old old before after r
  unfolding on_source
  opens_deep e h = subst (λ (n : ℕ). Opens n file old old before after r) (sym e) (h old)

  -- the file's text was read, and then its lines
  pub opens_file : (m : ℕ) (middle new : FilesView) (v : Vec ℕ) (used : List ℕ) → levels ≡ suc m → used ≡ v.items → ReadsText file old middle (Ok v) → Walks m used middle new before after r → Opens levels file old new before after r
  unfolding on_source
  opens_file m middle new v used e same text lines =
      subst (λ (n : ℕ). Opens n file old new before after r) (sym e)
      (then_read (read_file old.told file) (λ t x. walk t (on_source m t) (count_of before) (script_lines x)) old middle new v r text
      (λ x had. subst (λ (u : List ℕ). Walks m u middle new before after r) (same ∙ had) lines))

-- the file's text wasn't read
pub opens_nothing : (levels : ℕ) (file : List ℕ) (old new : FilesView) (before after : Script) (m : ℕ) (why : Failure Fault) → levels ≡ suc m → ReadsText file old new (Err why) → Opens levels file old new before after (Err why)
unfolding on_source
opens_nothing levels file old new before after m why e h =
    subst (λ (n : ℕ). Opens n file old new before after (Err why)) (sym e)
    (then_ended (read_file old.told file) (λ x. walk old.told (on_source m old.told) (count_of before) (script_lines x)) old new why h)

-- ---- one line of a file

-- no line is added
pub none_added : (script : Script) → length script.lines.items ≤ most_lines → IsAdded script script no_line false
none_added script few = record { lines = []; read = no_script; added = sym (append-nil script.lines.items); words = sym (append-nil script.words.items); count = refl; few = few; ends = refl }

module _ (levels : ℕ) (bytes : List ℕ) (old : FilesView) (before : Script) (names : Table) where
  -- a line that says nothing
  pub takes_nothing : length before.lines.items ≤ most_lines → IsRead before.names bytes reads.Nothing names → ReadsFileLine levels bytes old old before (with_names names before) (Ok false)
  takes_nothing few read =
      let said = said_by before.names bytes reads.Nothing names read in
      subst (λ (t : Table). ReadsFileLine levels bytes old old before (with_names t before) (Ok false)) (sym said.0) (rw said.1 (read_nothing old no_line false (none_added before few)))

  module _ (after : Script) (r : Result Bool (Failure Fault)) where
    -- a line without `source` and `run plan`, or one of these that names no file
    pub takes_command : (line : Line) → IsRead before.names bytes (reads.Line line) names → PutsLine bytes line (with_names names before) after r → ReadsFileLine levels bytes old old before after r
    takes_command line read puts =
        let h : PutsPlain bytes before after r = puts before.names read in
        let is = said_by before.names bytes (reads.Line line) names read in
        elim is.1 [
          | inl s ↦ rw (is.0, s.0, s.1) (h old)
          | inr s ↦ elim s.1 [ inl other ↦ rw (is.0, s.0, other) (h old) | inr none ↦ rw (is.0, s.0, none) (by_plan (is_run_plan bytes) (h old)) ]
        ] where
          by_plan : (b : Bool) → Adds (plain_line (count_of before) bytes) old old before after r → Adds (if b then plan_line old.told (count_of before) bytes None else plain_line (count_of before) bytes) old old before after r
          by_plan true h = h
          by_plan false h = h

    -- a line that names a file
    pub takes_source : (file used : List ℕ) (new : FilesView) → used ≡ file → IsRead before.names bytes (reads.Source file) names → Opens levels used old new (with_names names before) after r → ReadsFileLine levels bytes old new before after r
    takes_source file used new same read opened =
        let said = said_by before.names bytes (reads.Source file) names read in
        rw (said.1.0, said.1.1, said.1.2, sym same) (subst (λ (t : Table). Opens levels used old new (with_names t before) after r) said.0 opened)

    -- a line that runs the plan in a file
    pub takes_plan : (file used : List ℕ) (new : FilesView) → used ≡ file → IsRead before.names bytes (reads.RunPlan file) names → PutsReadPlan used old new (with_names names before) after r → ReadsFileLine levels bytes old new before after r
    takes_plan file used new same read puts =
        let h : PutsPlan bytes file old new before after r = subst (λ (f : List ℕ). PutsReadPlan f old new (with_names names before) after r) same puts bytes before.names read in
        let said = said_by before.names bytes (reads.RunPlan file) names read in
        rw (said.0, said.1, said.2, said.3) h

-- ---- the lines of a file

-- lines are added after lines
added_after : (flat more : Flat) (first middle last : Script) (b ended : Bool) → IsAdded first middle flat b → IsAdded middle last more ended → IsAdded first last (record { lines = flat.lines ++ more.lines; ended = more.ended }) ended
added_after flat more first middle last b ended h g = record {
  lines = h.lines ++ g.lines;
  read = scripts_join first.names middle.names last.names flat.lines more.lines h.lines g.lines h.read g.read;
  added = g.added ∙ ap (λ (x : List Line). x ++ g.lines) h.added ∙ append_assoc first.lines.items h.lines g.lines;
  words = g.words ∙ ap (λ (x : List (Option EditWord)). x ++ map word_of more.lines) h.words ∙ append_assoc first.words.items (map word_of flat.lines) (map word_of more.lines)
      ∙ ap (λ (x : List (Option EditWord)). first.words.items ++ x) (sym (map-append word_of flat.lines more.lines));
  count = omega (arith, length-append h.lines g.lines, length-append flat.lines more.lines, h.count, g.count);
  few = g.few;
  ends = g.ends;
}

-- what follows a line
abbrev rest_of : ℕ → ℕ → List (List ℕ) → Texts → Flat → Reading Flat
rest_of levels n rest t flat = followed flat (walk t (on_source levels t) (n + length flat.lines) rest)

-- what follows these command lines, where they don't end the script
abbrev joined : Flat → Reading Flat → Reading Flat
joined flat part = and_then part (λ more. gives [] (record { lines = flat.lines ++ more.lines; ended = more.ended }))

joined_read : (flat : Flat) (part : Reading Flat) (old new : FilesView) (first middle last : Script) (b : Bool) (r : Result Bool (Failure Fault)) → IsAdded first middle flat b → Adds part old new middle last r → Adds (joined flat part) old new first last r
joined_read flat part old new first middle last b (Ok ended) h g =
    then_read part (λ t more. gives [] (record { lines = flat.lines ++ more.lines; ended = more.ended })) old new new ended (Ok ended) g
    (λ more is. read_nothing new (record { lines = flat.lines ++ more.lines; ended = more.ended }) ended (added_after flat more first middle last b ended h is))
joined_read flat part old new first middle last b (Err why) h g =
    then_ended part (λ more. gives [] (record { lines = flat.lines ++ more.lines; ended = more.ended })) old new why g

-- the count of lines after these
count_after : (flat : Flat) (first middle : Script) (b : Bool) → IsAdded first middle flat b → count_of middle ≡ count_of first + length flat.lines
count_after flat first middle b h = omega (arith, ap length h.added, length-append first.lines.items h.lines, h.count)

module _ (levels : ℕ) (bytes : List ℕ) (rest : List (List ℕ)) (old new : FilesView) (first : Script) where
  -- the line wasn't read
  pub line_ended : (last : Script) (why : Failure Fault) → ReadsFileLine levels bytes old new first last (Err why) → WalksLines levels (bytes ∷ rest) old new first last (Err why)
  line_ended last why h = then_ended (step old.told (on_source levels old.told) (count_of first) bytes) (rest_of levels (count_of first) rest old.told) old new why h

  -- the line ends the script
  pub line_last : (last : Script) → ReadsFileLine levels bytes old new first last (Ok true) → WalksLines levels (bytes ∷ rest) old new first last (Ok true)
  line_last last h =
      then_read (step old.told (on_source levels old.told) (count_of first) bytes) (rest_of levels (count_of first) rest) old new new true (Ok true) h
      (λ flat added. ended_here flat added flat.ended added.ends) where
        ended_here : (flat : Flat) → IsAdded first last flat true → (b : Bool) → b ≡ true → Adds (if b then gives [] flat else joined flat (walk new.told (on_source levels new.told) (count_of first + length flat.lines) rest)) new new first last (Ok true)
        ended_here flat added b e = rw e (read_nothing new flat true added)

  -- it doesn't
  pub line_next : (middle last : Script) (end : FilesView) (r : Result Bool (Failure Fault)) → ReadsFileLine levels bytes old new first middle (Ok false) → WalksLines levels rest new end middle last r → WalksLines levels (bytes ∷ rest) old end first last r
  line_next middle last end r h g =
      then_read (step old.told (on_source levels old.told) (count_of first) bytes) (rest_of levels (count_of first) rest) old new end false r h
      (λ flat added. goes_on flat added flat.ended added.ends) where
        goes_on : (flat : Flat) → IsAdded first middle flat false → (b : Bool) → b ≡ false → Adds (if b then gives [] flat else joined flat (walk new.told (on_source levels new.told) (count_of first + length flat.lines) rest)) new end first last r
        goes_on flat added b e =
            rw e (joined_read flat (walk new.told (on_source levels new.told) (count_of first + length flat.lines) rest) new end first middle last false r added
            (subst (λ (n : ℕ). Adds (walk new.told (on_source levels new.told) n rest) new end middle last r) (count_after flat first middle false added) g))

-- no lines
pub walk_nothing : (levels : ℕ) (files : FilesView) (script : Script) → length script.lines.items ≤ most_lines → WalksLines levels [] files files script script (Ok false)
walk_nothing levels files script few = read_nothing files no_line false (none_added script few)

-- ---- the loop

-- What the other lines come to from here, all lines come to from the first.
abbrev pub Follows : ℕ → List (List ℕ) → List (List ℕ) → FilesView → FilesView → Script → Script → Type 0
Follows levels all rest old now first middle = (new : FilesView) (last : Script) (r : Result Bool (Failure Fault)) → WalksLines levels rest now new middle last r → WalksLines levels all old new first last r

-- the span at a place
abbrev span_at : List Span → ℕ → Span
span_at spans i = get_or spans i (record { from = 0; to = 0 })

-- the line at a place
abbrev line_at : List ℕ → List Span → ℕ → List ℕ
line_at text spans i = slice_range text (span_at spans i).from (span_at spans i).to

-- the lines from a place are its own and those after it
pub rest-cons : (text : List ℕ) (spans : List Span) (i : ℕ) → i < length spans → pieces text (drop i spans) ≡ line_at text spans i ∷ pieces text (drop (i + 1) spans)
rest-cons text spans i lt =
    let one : suc i ≡ i + 1 = omega arith in
    ap (pieces text) (drop-cons spans i (record { from = 0; to = 0 }) lt ∙ ap (λ (n : ℕ). span_at spans i ∷ drop n spans) one)

module _ (levels : ℕ) (text : List ℕ) (spans : List Span) (i : ℕ) (lt : i < length spans) (all : List (List ℕ)) (old now new : FilesView) (first middle last : Script) (follows : Follows levels all (pieces text (drop i spans)) old now first middle) where
  here : (end : FilesView) (s : Script) (r : Result Bool (Failure Fault)) → WalksLines levels (line_at text spans i ∷ pieces text (drop (i + 1) spans)) now end middle s r → WalksLines levels all old end first s r
  here end s r h = follows end s r (subst (λ (ls : List (List ℕ)). WalksLines levels ls now end middle s r) (sym (rest-cons text spans i lt)) h)

  pub loop_ended : (why : Failure Fault) → ReadsFileLine levels (line_at text spans i) now new middle last (Err why) → WalksLines levels all old new first last (Err why)
  loop_ended why h = here new last (Err why) (line_ended levels (line_at text spans i) (pieces text (drop (i + 1) spans)) now new middle last why h)

  pub loop_last : (b : Bool) → b ≡ true → ReadsFileLine levels (line_at text spans i) now new middle last (Ok b) → WalksLines levels all old new first last (Ok true)
  loop_last b e h =
      here new last (Ok true)
      (line_last levels (line_at text spans i) (pieces text (drop (i + 1) spans)) now new middle last (subst (λ (x : Bool). ReadsFileLine levels (line_at text spans i) now new middle last (Ok x)) e h))

  pub loop_next : (b : Bool) → b ≡ false → ReadsFileLine levels (line_at text spans i) now new middle last (Ok b) → Follows levels all (pieces text (drop (i + 1) spans)) old new first last
  loop_next b e h end s r g =
      here end s r
      (line_next levels (line_at text spans i) (pieces text (drop (i + 1) spans)) now new middle last s end r (subst (λ (x : Bool). ReadsFileLine levels (line_at text spans i) now new middle last (Ok x)) e h) g)

-- all lines were read
pub loop_done : (levels : ℕ) (text : List ℕ) (spans : List Span) (i : ℕ) (all : List (List ℕ)) (old now : FilesView) (first middle : Script) → i ≡ length spans → length middle.lines.items ≤ most_lines → Follows levels all (pieces text (drop i spans)) old now first middle → WalksLines levels all old now first middle (Ok false)
loop_done levels text spans i all old now first middle e few follows =
    let none : [] ≡ pieces text (drop i spans) = sym (ap (λ (n : ℕ). pieces text (drop n spans)) e ∙ ap (pieces text) (drop-length spans)) in
    follows now middle (Ok false) (subst (λ (ls : List (List ℕ)). WalksLines levels ls now now middle middle (Ok false)) none (walk_nothing levels now middle few))
