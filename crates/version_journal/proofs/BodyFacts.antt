-- The bodies of a journal, one by one.
use Rattle.std.proofs.Common.{◌≡◌, ◌≢◌, ℕ, ◌+◌, List, [], ◌∷◌, ◌++◌, length, refl, sym, ap, subst, ◌∙◌, arith, Bool, true, false, Option, Some, None, IsTrue, append_assoc, append-nil, ◌==◌}
use Rattle.std.specs.List.{AllByRecursion}
use Rattle.std.specs.Option.{option_and_then}
use Rattle.std.proofs.lemmas.Bool.{eqb-true}
use Rattle.pk_values.specs.Schemas.{Layout}
use Rattle.journal_form.specs.declared.records.Record.{Record}
use Rattle.journal_form.specs.declared.records.Record.TheVariants.{Create, Publish, Compact, Floor, Levels, Checkpoint}
use Rattle.journal_form.specs.Meaning.{Opening, Standing, created, listed, goes_on, is_form, meaning, no_versions, opens, step}
use Rattle.journal_form.specs.Standings.{begun, is_built, records_mean}
use Rattle.journal_form.proofs.Parts.{some_is, then_some}
use Rattle.journal_form.proofs.StepFacts.{one_more, steps_count}
use Rattle.journal_bytes.specs.Records.{RecordFits, record_bytes}
use Rattle.journal_bytes.specs.ReadRecords.{IsBodyOf}
use Rattle.journal_bytes.specs.Bodies.{AllFit, Means, bodies_from, first_record, opening_body}
use Rattle.journal_bytes.specs.RecordsTell.{one_spelling}
use Rattle.journal_bytes.proofs.BodiesTell.{body_is_a_step, goes_on-none, known, opening-one}
use Rattle.journal_replay.specs.declared.replay.Replay.{Replay}
use Rattle.journal_replay.specs.Follow.{Follows, Goes}
use Rattle.version_journal.specs.Images.{IsBuilt}
use Rattle.version_journal.specs.Reading.{HasBegun, IsCreation, IsReplayed, MeanNothing, SoFar, is_creation}

-- ---- what a body is

-- the body of a built record is of no other one
pub is_built_one : (edit : ℕ) (told : Record) (body : List ℕ) → RecordFits edit told → body ≡ record_bytes edit told → IsBuilt body → IsTrue (is_built told)
is_built_one edit told body fits spelled b =
    let p = one_spelling b.edit edit b.told told b.fits fits (sym b.spelled ∙ spelled) in
    subst (λ (r : Record). IsTrue (is_built r)) p.1 b.built

all_first : (bodies : List (List ℕ)) (body : List ℕ) (more : List (List ℕ)) → bodies ≡ body ∷ more → AllByRecursion IsBuilt bodies → IsBuilt body
all_first bodies body more e all = let split : AllByRecursion IsBuilt (body ∷ more) = subst (AllByRecursion IsBuilt) e all in split.0

all_behind : (pre : List (List ℕ)) (body : List ℕ) (more : List (List ℕ)) → AllByRecursion IsBuilt (pre ++ body ∷ more) → IsBuilt body
all_behind [] body more all = all.0
all_behind (p ∷ pre) body more all = all_behind pre body more all.1

all_push : (bodies : List (List ℕ)) (body : List ℕ) → AllByRecursion IsBuilt bodies → IsBuilt body → AllByRecursion IsBuilt (bodies ++ body ∷ [])
all_push [] body all one = (one, tt)
all_push (b ∷ bodies) body all one = (all.0, all_push bodies body all.1 one)

-- ---- the first body

creation : (edit : ℕ) (o : Opening) (body : List ℕ) (s : Standing) (rs : List Record) → RecordFits edit (first_record o) → body ≡ opening_body edit o → IsBuilt body → meaning edit o rs ≡ Some s → IsCreation body
creation edit (created form schema) body s rs fits spelled built means = by (edit == 0) refl means
  where
    by : (b : Bool) → (edit == 0) ≡ b → goes_on rs (opens edit (created form schema)) ≡ Some s → IsCreation body
    by true e h =
        let zero_ = eqb-true edit 0 e in
        record {
          told = Create form schema;
          is = record { fits = subst (λ (n : ℕ). RecordFits n (Create form schema)) zero_ fits; spelled = sym (spelled ∙ ap (λ (n : ℕ). record_bytes n (Create form schema)) zero_) };
          built = is_built_one edit (Create form schema) body fits spelled built;
          first = refl;
        }
    by false e h = absurd (apart (sym (goes_on-none rs) ∙ ap (goes_on rs) (sym (none e)) ∙ h))
      where
        apart : None ≡ Some s → ⊥
        apart q = cc

        none : (edit == 0) ≡ false → opens edit (created form schema) ≡ None
        none e = cc
creation edit (listed l) body s rs fits spelled built means = let b = is_built_one edit (first_record (listed l)) body fits spelled built in cc

pub begins_so : (body : List ℕ) (more : List (List ℕ)) (s : Standing) → Means (body ∷ more) s → AllByRecursion IsBuilt (body ∷ more) → IsCreation body
begins_so body more s m all =
    let head : body ≡ opening_body m.edit m.opening = cc in
    creation m.edit m.opening body s m.records m.first_fits head all.0 m.means
  where
    spelled : body ∷ more ≡ opening_body m.edit m.opening ∷ bodies_from (m.edit + 1) m.records
    spelled = m.spelled

abbrev first_of_form : (schema : Layout) → Standing
first_of_form schema = record { form = 1; epoch = 0; edit = 0; versions = no_versions schema; kept = []; levels = None }

pub begun_alone : (body : List ℕ) (told : Record) → IsBodyOf 0 told body → IsTrue (is_built told) → is_creation told ≡ true → (s : Standing) × HasBegun body told s
begun_alone body (Create form schema) is built first =
    let one : form ≡ 1 = eqb-true form 1 built in (
      first_of_form schema,
      record {
        schema = schema;
        opened = refl;
        done = record {
          means = record {
            edit = 0;
            opening = created form schema;
            records = [];
            first_fits = is.fits;
            kept_fit = tt;
            later_fit = tt;
            spelled = ap (λ (b : List ℕ). b ∷ []) (sym is.spelled);
            means = ap (λ (n : ℕ). opens 0 (created n schema)) one;
          };
          built = (record { edit = 0; told = Create form schema; fits = is.fits; spelled = sym is.spelled; built = built }, tt);
          told = ap (λ (n : ℕ). opens 0 (created n schema)) one;
          read = (built, tt);
          epoch = refl;
          count = refl;
        };
      },
    )
begun_alone body (Publish version files rows) is built first = cc
begun_alone body (Compact version replaced files rows levels) is built first = cc
begun_alone body (Floor floor) is built first = cc
begun_alone body (Levels levels) is built first = cc
begun_alone body (Checkpoint epoch form schema next_file floor rowsets kept levels) is built first = cc

-- ---- a later body

record Later (edit : ℕ) (ps rs : List Record) (body : List ℕ) : Type 0 where
  told : Record
  after : List Record
  split : rs ≡ ps ++ told ∷ after
  fits : RecordFits (edit + length ps) told
  spelled : body ≡ record_bytes (edit + length ps) told

later : (edit : ℕ) (ps rs : List Record) (body : List ℕ) (more : List (List ℕ)) → AllFit edit ps → AllFit edit rs → bodies_from edit ps ++ body ∷ more ≡ bodies_from edit rs → Later edit ps rs body
later edit [] [] body more g h e = cc
later edit [] (r ∷ rs) body more g h e =
    let at : edit ≡ edit + 0 = omega arith in
    let head : body ≡ record_bytes edit r = cc in
    record { told = r; after = rs; split = refl; fits = subst (λ (n : ℕ). RecordFits n r) at h.0; spelled = head ∙ ap (λ (n : ℕ). record_bytes n r) at }
later edit (p ∷ ps) [] body more g h e = cc
later edit (p ∷ ps) (r ∷ rs) body more g h e =
    let head : record_bytes edit p ≡ record_bytes edit r = cc in
    let tail : bodies_from (edit + 1) ps ++ body ∷ more ≡ bodies_from (edit + 1) rs = cc in
    let same = one_spelling edit edit p r g.0 h.0 head in
    let l = later (edit + 1) ps rs body more g.1 h.1 tail in
    let at : edit + 1 + length ps ≡ edit + length (p ∷ ps) = omega arith in
    record {
      told = l.told;
      after = l.after;
      split = λ i. sym same.1 i ∷ l.split i;
      fits = subst (λ (n : ℕ). RecordFits n l.told) at l.fits;
      spelled = l.spelled ∙ ap (λ (n : ℕ). record_bytes n l.told) at;
    }

-- a body that goes on from what was meant
pub record GoesOn (body : List ℕ) (s : Standing) : Type 0 where
  pub told : Record
  pub is : IsBodyOf (s.edit + 1) told body
  pub built : IsTrue (is_built told)
  pub next : Standing
  pub steps : step s told ≡ Some next

goes_on-append : (ps : List Record) (r : Record) (after : List Record) (o : Option Standing) → goes_on (ps ++ r ∷ after) o ≡ goes_on after (option_and_then (λ s. step s r) (goes_on ps o))
goes_on-append [] r after o = refl
goes_on-append (p ∷ ps) r after o = goes_on-append ps r after (option_and_then (λ s. step s p) o)

some_step : (after : List Record) (o : Option Standing) (t : Standing) → goes_on after o ≡ Some t → (u : Standing) × (o ≡ Some u)
some_step after (Some u) t h = (u, refl)
some_step after None t h = absurd (apart (sym (goes_on-none after) ∙ h))
  where
    apart : None ≡ Some t → ⊥
    apart q = cc

pub goes_on_so : (pre : List (List ℕ)) (body : List ℕ) (more : List (List ℕ)) (s t : Standing) → Means pre s → Means (pre ++ body ∷ more) t → AllByRecursion IsBuilt (pre ++ body ∷ more) → GoesOn body s
goes_on_so pre body more s t m n all =
    let both : opening_body m.edit m.opening ∷ (bodies_from (m.edit + 1) m.records ++ body ∷ more) ≡ opening_body n.edit n.opening ∷ bodies_from (n.edit + 1) n.records = ap (λ (b : List (List ℕ)). b ++ body ∷ more) (sym m.spelled) ∙ n.spelled in
    let head : opening_body m.edit m.opening ≡ opening_body n.edit n.opening = cc in
    let tail : bodies_from (m.edit + 1) m.records ++ body ∷ more ≡ bodies_from (n.edit + 1) n.records = cc in
    let first = one_spelling m.edit n.edit (first_record m.opening) (first_record n.opening) m.first_fits n.first_fits head in
    let opening = opening-one m.opening n.opening m.kept_fit n.kept_fit first.1 in
    let fits : AllFit (m.edit + 1) n.records = subst (λ (e : ℕ). AllFit (e + 1) n.records) (sym first.0) n.later_fit in
    let l = later (m.edit + 1) m.records n.records body more m.later_fit fits (tail ∙ ap (λ (e : ℕ). bodies_from (e + 1) n.records) (sym first.0)) in
    let last = (known pre s m).0 in
    let at : m.edit + 1 + length m.records ≡ s.edit + 1 = omega arith in
    let is : IsBodyOf (s.edit + 1) l.told body = record { fits = subst (λ (e : ℕ). RecordFits e l.told) at l.fits; spelled = sym (l.spelled ∙ ap (λ (e : ℕ). record_bytes e l.told) at) } in
    let means : goes_on l.after (option_and_then (λ x. step x l.told) (meaning m.edit m.opening m.records)) ≡ Some t =
    sym (goes_on-append m.records l.told l.after (opens m.edit m.opening)) ∙ ap (λ (rs : List Record). meaning m.edit m.opening rs) (sym l.split) ∙ (λ i. meaning (first.0 i) (opening i) n.records) ∙ n.means in
    let stepped : goes_on l.after (step s l.told) ≡ Some t = ap (λ (o : Option Standing). goes_on l.after (option_and_then (λ x. step x l.told) o)) (sym m.means) ∙ means in
    let u = some_step l.after (step s l.told) t stepped in
    record {
      told = l.told;
      is = is;
      built = is_built_one (s.edit + 1) l.told body is.fits (sym is.spelled) (all_behind pre body more all);
      next = u.0;
      steps = u.1;
    }

-- ---- while bodies are read

told_more : (rs : List Record) (r : Record) (s t : Standing) → records_mean rs ≡ Some s → step s r ≡ Some t → records_mean (rs ++ r ∷ []) ≡ Some t
told_more [] r s t h k = cc
told_more (q ∷ rs) r s t h k = goes_on-append rs r [] (begun q) ∙ ap (λ (o : Option Standing). option_and_then (λ x. step x r) o) h ∙ k

read_push : (rs : List Record) (r : Record) → AllByRecursion (λ (x : Record). IsTrue (is_built x)) rs → IsTrue (is_built r) → AllByRecursion (λ (x : Record). IsTrue (is_built x)) (rs ++ r ∷ [])
read_push [] r h built = (built, tt)
read_push (q ∷ rs) r h built = (h.0, read_push rs r h.1 built)

pub one_body_more : (pre : List (List ℕ)) (records : List Record) (edits more : ℕ) (s t : Standing) (body : List ℕ) (told : Record) → IsReplayed pre records edits s → IsBodyOf (s.edit + 1) told body → IsTrue (is_built told)
    → step s told ≡ Some t → more ≡ t.edit + 1 → IsReplayed (pre ++ body ∷ []) (records ++ told ∷ []) more t
one_body_more pre records edits more s t body told done is built steps count_ =
    let counts = steps_count s t told steps in
    record {
      means = subst (λ (b : List ℕ). Means (pre ++ b ∷ []) t) is.spelled (body_is_a_step pre s t told done.means is.fits steps);
      built = all_push pre body done.built (record { edit = s.edit + 1; told = told; fits = is.fits; spelled = sym is.spelled; built = built });
      told = told_more records told s t done.told steps;
      read = read_push records told done.read built;
      epoch = counts.epoch ∙ done.epoch;
      count = count_;
    }

pub no_body_stops : (body : List ℕ) (s : Standing) (edit : ℕ) → edit ≡ s.edit + 1 → ((told : Record) → IsBodyOf edit told body → IsTrue (is_built told) → ⊥) → GoesOn body s → ⊥
no_body_stops body s edit at none g = none g.told (subst (λ (e : ℕ). IsBodyOf e g.told body) (sym at) g.is) g.built

pub no_step_stops : (body : List ℕ) (s : Standing) (edit : ℕ) (told : Record) → edit ≡ s.edit + 1 → IsBodyOf edit told body → step s told ≡ None → GoesOn body s → ⊥
no_step_stops body s edit told at is none g =
    let p = one_spelling (s.edit + 1) edit g.told told g.is.fits is.fits (g.is.spelled ∙ sym is.spelled) in
    let same : step s told ≡ Some g.next = ap (step s) (sym p.1) ∙ g.steps in
    cc

-- one body has one edit
pub other_edit : (body : List ℕ) (edit due : ℕ) (told : Record) → IsBodyOf edit told body → (edit ≡ due → ⊥) → (r : Record) → IsBodyOf due r body → IsTrue (is_built r) → ⊥
other_edit body edit due told is apart r other built =
    let p = one_spelling edit due told r is.fits other.fits (is.spelled ∙ sym other.spelled) in
    apart p.0

pub not_built : (body : List ℕ) (edit due : ℕ) (told : Record) → IsBodyOf edit told body → is_built told ≡ false → (r : Record) → IsBodyOf due r body → IsTrue (is_built r) → ⊥
not_built body edit due told is against r other built =
    let p = one_spelling edit due told r is.fits other.fits (is.spelled ∙ sym other.spelled) in
    let yes : IsTrue (is_built told) = subst (λ (x : Record). IsTrue (is_built x)) (sym p.1) built in
    cc

pub not_creation : (body : List ℕ) (more : List (List ℕ)) → (IsCreation body → ⊥) → MeanNothing (body ∷ more)
not_creation body more against s m all = against (begins_so body more s m all)

pub no_first : (body : List ℕ) → ((told : Record) → IsBodyOf 0 told body → IsTrue (is_built told) → ⊥) → IsCreation body → ⊥
no_first body none c = none c.told c.is c.built

pub other_first : (body : List ℕ) (told : Record) → IsBodyOf 0 told body → is_creation told ≡ false → IsCreation body → ⊥
other_first body told is against c =
    let p = one_spelling 0 0 c.told told c.is.fits is.fits (c.is.spelled ∙ sym is.spelled) in
    let yes : is_creation told ≡ true = ap is_creation (sym p.1) ∙ c.first in
    cc

pub no_bodies : MeanNothing []
no_bodies s m all = let spelled = m.spelled in cc

-- ---- at the ends of the loop

pub so_far_first : (bodies rest : List (List ℕ)) (body : List ℕ) (told : Record) (replay : Replay) → bodies ≡ body ∷ rest → (begun_ : (s : Standing) × HasBegun body told s)
    → ((schema : Layout) (s : Standing) → opens 0 (created 1 schema) ≡ Some s → Follows replay s) → SoFar bodies rest (told ∷ []) replay
so_far_first bodies rest body told replay split begun_ follows = record {
  pre = body ∷ [];
  split = split;
  s = begun_.0;
  follows = follows begun_.1.schema begun_.0 begun_.1.opened;
  done = subst (λ (n : ℕ). IsReplayed (body ∷ []) (told ∷ []) n begun_.0) begun_.1.done.count begun_.1.done;
}

pub all_read : (bodies left : List (List ℕ)) (records : List Record) (replay : Replay) (edits : ℕ) → left ≡ [] → edits ≡ replay.edit + 1 → (so_far : SoFar bodies left records replay) → (s : Standing) × IsReplayed bodies records edits s
all_read bodies left records replay edits none count_ so_far =
    let whole : so_far.pre ≡ bodies = sym (so_far.split ∙ ap (λ (l : List (List ℕ)). so_far.pre ++ l) none ∙ append-nil so_far.pre) in
    let n : so_far.s.edit + 1 ≡ edits = sym (count_ ∙ ap (λ (e : ℕ). e + 1) so_far.follows.edit) in
    (so_far.s, subst (λ (b : List (List ℕ)). IsReplayed b records edits so_far.s) whole (subst (λ (e : ℕ). IsReplayed so_far.pre records e so_far.s) n so_far.done))

-- ---- in the loop, where what is left begins with a body

pub stops_at : (bodies left more : List (List ℕ)) (body : List ℕ) (records : List Record) (old : Replay) (so_far : SoFar bodies left records old) → left ≡ body ∷ more → (GoesOn body so_far.s → ⊥) → MeanNothing bodies
stops_at bodies left more body records old so_far begins against t m all =
    let split : bodies ≡ so_far.pre ++ body ∷ more = so_far.split ∙ ap (λ (l : List (List ℕ)). so_far.pre ++ l) begins in
    against (goes_on_so so_far.pre body more so_far.s t so_far.done.means (subst (λ (b : List (List ℕ)). Means b t) split m) (subst (AllByRecursion IsBuilt) split all))

pub more_at : (bodies left more : List (List ℕ)) (body : List ℕ) (records : List Record) (told : Record) (old new : Replay) (so_far : SoFar bodies left records old) → left ≡ body ∷ more
    → IsBodyOf (old.edit + 1) told body → IsTrue (is_built told) → Goes true (step so_far.s told) new → SoFar bodies more (records ++ told ∷ []) new
more_at bodies left more body records told old new so_far begins is built goes =
    let edit = so_far.follows.edit in
    let is' : IsBodyOf (so_far.s.edit + 1) told body = subst (λ (e : ℕ). IsBodyOf (e + 1) told body) edit is in
    record {
      pre = so_far.pre ++ body ∷ [];
      split = so_far.split ∙ ap (λ (l : List (List ℕ)). so_far.pre ++ l) begins ∙ sym (append_assoc so_far.pre (body ∷ []) more);
      s = goes.0;
      follows = goes.2;
      done = one_body_more so_far.pre records (so_far.s.edit + 1) (goes.0.edit + 1) so_far.s goes.0 body told so_far.done is' built goes.1 refl;
    }

pub none_first : (bodies more : List (List ℕ)) (body : List ℕ) → bodies ≡ body ∷ more → (IsCreation body → ⊥) → MeanNothing bodies
none_first bodies more body split against = subst MeanNothing (sym split) (not_creation body more against)
