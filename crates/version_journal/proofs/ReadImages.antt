-- What an image says, by what is read of its areas.
use Rattle.std.proofs.Common.{◌≡◌, ◌≢◌, ℕ, suc, zero, ◌++◌, ◌+◌, ◌<◌, List, [], ◌∷◌, refl, sym, ap, subst, ◌∙◌, arith, Bool, Option, Some, None, IsTrue, ⊎_elim}
use Rattle.std.specs.List.{AllByRecursion}
use Rattle.dev_traits.specs.Image.{Image, area_of}
use Rattle.dev_traits.specs.View.{View, Calm, EachImage}
use Rattle.gated_log.specs.Log.{frame, BeginsWith, EndsAt, HasNone, IsLog, IsNoLog, IsSettled, IsSynced}
use Rattle.gated_log.proofs.Bytes.{ends_is_log}
use Rattle.journal_form.specs.declared.records.Record.{Record}
use Rattle.journal_form.specs.declared.records.Record.TheVariants.{Create, Publish, Compact, Floor, Levels, Checkpoint}
use Rattle.journal_form.specs.Meaning.{Standing}
use Rattle.journal_form.specs.Standings.{is_built, records_mean}
use Rattle.journal_form.proofs.Parts.{some_is}
use Rattle.journal_bytes.specs.Bodies.{Means}
use Rattle.version_journal.specs.declared.journals.Journal.{Journal}
use Rattle.version_journal.specs.Areas.{Begins, OpensBefore, area_of_epoch, first_epoch, other_area}
use Rattle.version_journal.specs.Images.{HasNoRecord, IsBuilt, IsSaid, Says}
use Rattle.version_journal.specs.Journals.{HasJournal, IsCounted, ReadsAs}
use Rattle.version_journal.specs.Reading.{DamagedSaysNothing, IsDamagedIn, IsReplayed, MeanNothing, SaysOne}
use Rattle.version_journal.proofs.Logs.{one_log}
use Rattle.version_journal.proofs.Meanings.{headed, image_means_one}
use Rattle.version_journal.proofs.BodyFacts.{is_built_one}

-- ---- all that is said as yet has epoch 0

built_first : (told : Record) (epoch : ℕ) → first_epoch told ≡ Some epoch → IsTrue (is_built told) → epoch ≡ 0
built_first (Create form schema) epoch h b = sym (some_is 0 epoch h)
built_first (Checkpoint e form schema next_file floor rowsets kept levels) epoch h b = cc
built_first (Publish version files rows) epoch h b = cc
built_first (Compact version replaced files rows levels) epoch h b = cc
built_first (Floor floor) epoch h b = cc
built_first (Levels levels) epoch h b = cc

all_head : (bodies : List (List ℕ)) (body : List ℕ) (more : List (List ℕ)) → bodies ≡ body ∷ more → AllByRecursion IsBuilt bodies → IsBuilt body
all_head bodies body more e all = let split : AllByRecursion IsBuilt (body ∷ more) = subst (AllByRecursion IsBuilt) e all in split.0

pub said_epoch : (image : Image) (s : Standing) → IsSaid image s → s.epoch ≡ 0
said_epoch image s said =
    let head = headed said.meant.log s said.meant.means in
    let begins = head.begins in
    built_first begins.told s.epoch begins.first (is_built_one begins.edit begins.told head.body begins.fits begins.spelled (all_head said.meant.log head.body head.later head.split said.built))

log_zero : (image : Image) (s : Standing) (said : IsSaid image s) → IsLog said.meant.log (area_of image 0)
log_zero image s said = subst (λ (e : ℕ). IsLog said.meant.log (area_of image (area_of_epoch e))) (said_epoch image s said) said.meant.is_log

none_before : (epoch : ℕ) (other : List (List ℕ)) → epoch ≡ 0 → OpensBefore epoch other → other ≡ []
none_before epoch [] e before = refl
none_before epoch (b ∷ bs) e before = let lt = before.2 in absurd (omega arith)

none_one : (image : Image) (s : Standing) → IsSaid image s → HasNone (area_of image 1)
none_one image s said =
    let epoch = said_epoch image s said in
    let none = none_before s.epoch said.meant.other epoch said.meant.before in
    let there : IsLog said.meant.other (area_of image 1) = subst (λ (e : ℕ). IsLog said.meant.other (area_of image (other_area e))) epoch said.meant.other_log in
    subst (λ (l : List (List ℕ)). IsLog l (area_of image 1)) none there

-- ---- one thing

some_body : (log : List (List ℕ)) (s : Standing) → Means log s → log ≡ [] → ⊥
some_body log s m e = let head = m.spelled in cc

apart : (image : Image) (s : Standing) → HasNoRecord image → IsSaid image s → ⊥
apart image s none said = some_body said.meant.log s said.meant.means (one_log said.meant.log [] (area_of image 0) (log_zero image s said) none.0)

pub says_one : SaysOne
says_one image None None m n = refl
says_one image None (Some t) m n = absurd (apart image t m n)
says_one image (Some s) None m n = absurd (apart image s n m)
says_one image (Some s) (Some t) m n = ap Some (image_means_one image s t m.meant n.meant)

pub damaged_says_nothing : DamagedSaysNothing
damaged_says_nothing zero image None d says = ⊎_elim (λ against. against [] says.0) (λ b. b.2 (one_log b.0 [] (area_of image 0) b.1 says.0)) d
damaged_says_nothing zero image (Some s) d says = ⊎_elim (λ against. against says.meant.log (log_zero image s says))
    (λ b. let same : says.meant.log ≡ b.0 = one_log says.meant.log b.0 (area_of image 0) (log_zero image s says) b.1 in
    b.3 s (subst (λ (l : List (List ℕ)). Means l s) same says.meant.means) (subst (AllByRecursion IsBuilt) same says.built)) d
damaged_says_nothing (suc a) image None d says = d.1 says.1
damaged_says_nothing (suc a) image (Some s) d says = d.1 (none_one image s says)

-- ---- by what is read

pub says_read : (image : Image) (bodies : List (List ℕ)) (records : List Record) (edits : ℕ) (s : Standing) → IsReplayed bodies records edits s → IsLog bodies (area_of image 0) → HasNone (area_of image 1) → IsSaid image s
says_read image bodies records edits s r log none = record {
  meant = record {
    log = bodies;
    other = [];
    is_log = subst (λ (e : ℕ). IsLog bodies (area_of image (area_of_epoch e))) (sym r.epoch) log;
    other_log = subst (λ (e : ℕ). HasNone (area_of image (other_area e))) (sym r.epoch) none;
    means = r.means;
    before = tt;
  };
  built = r.built;
}

-- it goes by areas 0 and 1 alone
pub says_alike : (image left : Image) (s : Option Standing) → area_of left 0 ≡ area_of image 0 → area_of left 1 ≡ area_of image 1 → Says image s → Says left s
says_alike image left None zero_ one says = (subst HasNone (sym zero_) says.0, subst HasNone (sym one) says.1)
says_alike image left (Some s) zero_ one says =
    let epoch = said_epoch image s says in
    record {
      meant = record {
        log = says.meant.log;
        other = [];
        is_log = subst (λ (e : ℕ). IsLog says.meant.log (area_of left (area_of_epoch e))) (sym epoch) (subst (IsLog says.meant.log) (sym zero_) (log_zero image s says));
        other_log = subst (λ (e : ℕ). HasNone (area_of left (other_area e))) (sym epoch) (subst HasNone (sym one) (none_one image s says));
        means = says.meant.means;
        before = tt;
      };
      built = says.built;
    }

pub record IsReadFrom (journal : Journal) (bodies : List (List ℕ)) (records : List Record) (s : Standing) : Type 0 where
  pub area : journal.log.area ≡ 0
  pub epoch : journal.epoch ≡ 0
  pub replayed : IsReplayed bodies records journal.edits s

pub reads_as : (image : Image) (journal : Journal) (bodies : List (List ℕ)) (records : List Record) (s : Standing) → IsReadFrom journal bodies records s → EndsAt bodies journal.log.end (area_of image 0) → HasNone (area_of image 1)
    → ReadsAs journal (Some s) image
reads_as image journal bodies records s r ends none = record {
  says = says_read image bodies records journal.edits s r.replayed (ends_is_log bodies journal.log.end (area_of image 0) ends) none;
  counted = record {
    area = r.area ∙ sym (ap area_of_epoch r.replayed.epoch);
    epoch = r.epoch ∙ sym r.replayed.epoch;
    edits = r.replayed.count;
  };
  bodies = bodies;
  ends = subst (λ (a : ℕ). EndsAt bodies journal.log.end (area_of image a)) (sym r.area) ends;
}

-- records have one meaning
pub same_meaning : (journal : Journal) (bodies : List (List ℕ)) (records : List Record) (s t : Standing) → IsReadFrom journal bodies records s → records_mean records ≡ Some t → IsReadFrom journal bodies records t
same_meaning journal bodies records s t r h = subst (IsReadFrom journal bodies records) (some_is s t (sym r.replayed.told ∙ h)) r

-- where a crash leaves what is read, each image says it
pub settled_so : (u v : View) (image : Image) (journal : Journal) (s : Standing) → Calm u v → IsTrue u.is_honest → u.seen ≡ Some image → IsSynced 0 u → IsSynced 1 u → journal.log.area ≡ 0
    → ReadsAs journal (Some s) image → HasJournal journal (Some s) v
settled_so u v image journal s calm honest seen zero_ one at reads = record {
  each = λ left may. let was = (calm.now left).0 may in says_alike image left (Some s) (zero_ image seen left was) (one image seen left was) reads.says;
  counted = reads.counted;
  bodies = reads.bodies;
  settled = record {
    honest = subst (λ (b : Bool). IsTrue b) (sym calm.honest) honest;
    each = λ left may.
        let was = (calm.now left).0 may in
        let same : area_of left journal.log.area ≡ area_of image journal.log.area = subst (λ (a : ℕ). area_of left a ≡ area_of image a) (sym at) (zero_ image seen left was) in
        subst (EndsAt reads.bodies journal.log.end) (sym same) reads.ends;
  };
}

-- an area that begins with an open gate
pub open_not_none : (bytes body : List ℕ) → BeginsWith body bytes → HasNone bytes → ⊥
open_not_none bytes body b none = let closed : HasNone ((165 ∷ frame body) ++ b.rest) = subst HasNone b.split none in closed refl

pub no_log_not_none : (bytes : List ℕ) → IsNoLog bytes → HasNone bytes → ⊥
no_log_not_none bytes against none = against [] none

pub empty_has_none : (bytes : List ℕ) → bytes ≡ [] → HasNone bytes
empty_has_none bytes e = subst HasNone (sym e) tt

-- ---- all that was read

pub read_from : (journal : Journal) (bodies : List (List ℕ)) (records : List Record) (area epoch : ℕ) (s : Standing) → journal.log.area ≡ area → area ≡ 0 → journal.epoch ≡ 0 → (x : Standing) × IsReplayed bodies records journal.edits x
    → records_mean records ≡ Some s → IsReadFrom journal bodies records s
read_from journal bodies records area epoch s at none first found told =
    same_meaning journal bodies records found.0 s (record { area = at ∙ none; epoch = first; replayed = found.1 }) told
