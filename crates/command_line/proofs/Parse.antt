-- What `clap` makes of plain words.
use Rattle.std.proofs.Common.{◌≡◌, ℕ, List, [], ◌∷◌, Bool, true, false, refl, ap, ◌∙◌, ◌==◌, ◌&&◌, ◌||◌, cond, option_and_then, codes, Some, None, Option, is_some}
use Rattle.clap.specs.Words.{App, Row, Rule, Text, first_of, is_simple, matches_of, takes}
use Rattle.std.proofs.lemmas.Bool.{and_from, and_parts, false≢true}
use Rattle.std.proofs.lemmas.Slice.Eq.{bytes_eq-Decides}
use Rattle.std.proofs.Common.{not}
use Rattle.std.specs.List.{list_all}
use Rattle.std.specs.Option.{option_map_or}
use Rattle.std.specs.Str.{bytes_eq}
use Rattle.clap.specs.Lexer.{strip_byte, long_of, long_of_rest, short_of, short_of_rest}
use Rattle.clap.specs.Simple.{Shape, entered, names_of, built}
use Rattle.clap.specs.Walk.{finished, Held, Step, Walk, trailing, after_step, long_or_other, short_or_plain, word_met, walked, walk, walk_from, nothing_held, to_positional, arg_by_index, idle, value}
use Rattle.clap.specs.Takes.{default_passes, entered_passes, is_valid, settle_passes, bundle_passes, flag_word_passes, word_passes, turn_passes, step_passes, walk_passes}
use Rattle.std.specs.Borrow.{Bor}
use Rattle.std.specs.Prelude.{option_map, unwrap_or}
use Rattle.clap.specs.Matches.{first_value, found_of}
use Rattle.clap.specs.Walk.{rows_of}
use Rattle.clap.specs.declared.parser.matches.ArgMatches.{ArgMatches}
use Rattle.clap.proofs.WalkLemmas.{first_value-rows}
use Rattle.command_line.specs.Words.{Named, command, files_of, is_plain}
use Rattle.clap.proofs.OnLiterals.{clap_on_literals}

pub simple : is_simple command ≡ true
unfolding clap_on_literals
simple = refl

-- a walk that waits for a positional
abbrev between : ℕ → Held → Walk
between p h = record { held = h; waiting = idle; position = p; is_trailing = false; stopped = None }

-- ---- a plain word goes to the next positional

no_byte : (x : ℕ) (xs : Text) → (x == 45) ≡ false → strip_byte 45 (x ∷ xs) ≡ None
no_byte x xs e = ap (λ (b : Bool). cond b (Some xs) None) e

no_long : (x : ℕ) (xs : Text) → (x == 45) ≡ false → long_of (x ∷ xs) ≡ None
no_long x xs e = ap (λ (o : Option Text). option_and_then long_of_rest (option_and_then (strip_byte 45) o)) (no_byte x xs e)

no_short : (x : ℕ) (xs : Text) → (x == 45) ≡ false → short_of (x ∷ xs) ≡ None
no_short x xs e = ap (λ (o : Option Text). option_and_then short_of_rest o) (no_byte x xs e)

no_escape : (x : ℕ) (xs : Text) → (x == 45) ≡ false → bytes_eq (x ∷ xs) (45 ∷ 45 ∷ []) ≡ false
no_escape x xs e = ap (λ (b : Bool). b && bytes_eq xs (45 ∷ [])) e

-- what a word comes to, from what it looks like
met_from : (c : List Rule) (p : ℕ) (word : Text) (h : Held) → bytes_eq word (45 ∷ 45 ∷ []) ≡ false → long_of word ≡ None → short_of word ≡ None
    → word_met c [] false idle p word h ≡ (h, value)
met_from c p word h e l s =
    ap (λ (b : Bool). cond b (h, trailing p) (long_or_other c idle word (long_of word) h)) e
    ∙ ap (λ (o : Option (Text × Option Text)). long_or_other c idle word o h) l
    ∙ ap (λ (o : Option Text). short_or_plain c idle word o h) s

passes_from : (s : Shape) (word : Text) (h : Held) → long_of word ≡ None → short_of word ≡ None → bytes_eq word (45 ∷ 45 ∷ []) ≡ false
    → word_passes s [] false idle word h ≡ true
passes_from s word h l sh e =
    ap (λ (b : Bool). b || flag_word_passes s.rules s.args_override_self (long_of word) word h) e
    ∙ ap (λ (o : Option (Text × Option Text)). flag_word_passes s.rules s.args_override_self o word h) l
    ∙ ap (λ (o : Option Text). option_map_or (λ flags. bundle_passes s.rules s.args_override_self flags h) o true) sh

met_plain : (c : List Rule) (p x : ℕ) (xs : Text) (h : Held) → (x == 45) ≡ false → word_met c [] false idle p (x ∷ xs) h ≡ (h, value)
met_plain c p x xs h e = met_from c p (x ∷ xs) h (no_escape x xs e) (no_long x xs e) (no_short x xs e)

passes_plain : (s : Shape) (x : ℕ) (xs : Text) (h : Held) → (x == 45) ≡ false → word_passes s [] false idle (x ∷ xs) h ≡ true
passes_plain s x xs h e = passes_from s (x ∷ xs) h (no_long x xs e) (no_short x xs e) (no_escape x xs e)

walked_plain : (c : List Rule) (p x : ℕ) (xs : Text) (h : Held) → (x == 45) ≡ false
    → walked c [] (between p h) (x ∷ xs) ≡ to_positional c (arg_by_index c p) (x ∷ xs) (between p h) h
unfolding walked
walked_plain c p x xs h e =
    ap (λ (m : Held × Step). after_step c (x ∷ xs) (between p h) m.0 m.1) (met_plain c p x xs h e)

turn_plain : (s : Shape) (p x : ℕ) (xs : Text) (h : Held) → (x == 45) ≡ false
    → turn_passes s [] (between p h) (x ∷ xs) ≡ step_passes s p h value
turn_plain s p x xs h e =
    ap (λ (m : Held × Step). word_passes s [] false idle (x ∷ xs) h && step_passes s p m.0 m.1) (met_plain s.rules p x xs h e)
    ∙ ap (λ (b : Bool). b && step_passes s p h value) (passes_plain s x xs h e)

-- ---- three plain words

abbrev shape : Shape
shape = (built command).top

abbrev rules : List Rule
rules = shape.rules

-- the walk after one, two and three words
abbrev first : Text → Walk
first w = to_positional rules (arg_by_index rules 1) w (between 1 nothing_held) nothing_held

abbrev second : Text → Text → Walk
second w v = to_positional rules (arg_by_index rules 2) v (between 2 (first w).held) (first w).held

abbrev third : Text → Text → Text → Walk
third w v u = to_positional rules (arg_by_index rules 3) u (between 3 (second w v).held) (second w v).held

first_between : (w : Text) → first w ≡ between 2 (first w).held
unfolding clap_on_literals
first_between w = refl

second_between : (w v : Text) → second w v ≡ between 3 (second w v).held
unfolding clap_on_literals
second_between w v = refl

third_between : (w v u : Text) → third w v u ≡ between 4 (third w v u).held
unfolding clap_on_literals
third_between w v u = refl

step_one : step_passes shape 1 nothing_held value ≡ true
unfolding clap_on_literals
step_one = refl

step_two : (w : Text) → step_passes shape 2 (first w).held value ≡ true
unfolding clap_on_literals
step_two w = refl

step_three : (w v : Text) → step_passes shape 3 (second w v).held value ≡ true
unfolding clap_on_literals
step_three w v = refl

-- the words as a file names them: three that don't begin with a hyphen
pub record Three : Type 0 where
  pub a : ℕ
  pub at : List ℕ
  pub b : ℕ
  pub bt : List ℕ
  pub c : ℕ
  pub ct : List ℕ
  pub plain_a : (a == 45) ≡ false
  pub plain_b : (b == 45) ≡ false
  pub plain_c : (c == 45) ≡ false

module _ (t : Three) where
  after_one : walked rules [] (walk_from nothing_held) (t.a ∷ t.at) ≡ between 2 (first (t.a ∷ t.at)).held
  after_one = walked_plain rules 1 t.a t.at nothing_held t.plain_a ∙ first_between (t.a ∷ t.at)

  after_two : walked rules [] (between 2 (first (t.a ∷ t.at)).held) (t.b ∷ t.bt) ≡ between 3 (second (t.a ∷ t.at) (t.b ∷ t.bt)).held
  after_two = walked_plain rules 2 t.b t.bt (first (t.a ∷ t.at)).held t.plain_b ∙ second_between (t.a ∷ t.at) (t.b ∷ t.bt)

  after_three : walked rules [] (between 3 (second (t.a ∷ t.at) (t.b ∷ t.bt)).held) (t.c ∷ t.ct) ≡ between 4 (third (t.a ∷ t.at) (t.b ∷ t.bt) (t.c ∷ t.ct)).held
  after_three = walked_plain rules 3 t.c t.ct (second (t.a ∷ t.at) (t.b ∷ t.bt)).held t.plain_c ∙ third_between (t.a ∷ t.at) (t.b ∷ t.bt) (t.c ∷ t.ct)

  pub after_all : walk rules [] nothing_held ((t.a ∷ t.at) ∷ (t.b ∷ t.bt) ∷ (t.c ∷ t.ct) ∷ []) ≡ between 4 (third (t.a ∷ t.at) (t.b ∷ t.bt) (t.c ∷ t.ct)).held
  after_all =
      ap (λ (w : Walk). walked rules [] (walked rules [] w (t.b ∷ t.bt)) (t.c ∷ t.ct)) after_one
      ∙ ap (λ (w : Walk). walked rules [] w (t.c ∷ t.ct)) after_two
      ∙ after_three

  pub all_pass : walk_passes shape [] (walk_from nothing_held) ((t.a ∷ t.at) ∷ (t.b ∷ t.bt) ∷ (t.c ∷ t.ct) ∷ []) ≡ true
  unfolding walk_passes
  all_pass =
      and_from _ _ (turn_plain shape 1 t.a t.at nothing_held t.plain_a ∙ step_one)
      (ap (λ (w : Walk). walk_passes shape [] w ((t.b ∷ t.bt) ∷ (t.c ∷ t.ct) ∷ [])) after_one
      ∙ and_from _ _ (turn_plain shape 2 t.b t.bt (first (t.a ∷ t.at)).held t.plain_b ∙ step_two (t.a ∷ t.at))
      (ap (λ (w : Walk). walk_passes shape [] w ((t.c ∷ t.ct) ∷ [])) after_two
      ∙ and_from _ _ (turn_plain shape 3 t.c t.ct (second (t.a ∷ t.at) (t.b ∷ t.bt)).held t.plain_c ∙ step_three (t.a ∷ t.at) (t.b ∷ t.bt)) refl))

-- what follows the walk, where it came to w
after_walk : App → List Text → Walk → Bool
after_walk b words w = entered_passes b w.stopped && (walk_passes b.top (names_of b) (walk_from nothing_held) words
    && (settle_passes b.top.rules b.top.args_override_self w.held && (list_all default_passes b.top.rules && is_valid b.top (finished b.top.rules w.held) (is_some (entered b w.stopped)))))

ends_well : (w v u : Text) → (settle_passes rules shape.args_override_self (third w v u).held && (list_all default_passes rules && is_valid shape (finished rules (third w v u).held) false)) ≡ true
unfolding clap_on_literals
ends_well w v u = refl

pub taken : (t : Three) → takes command ((t.a ∷ t.at) ∷ (t.b ∷ t.bt) ∷ (t.c ∷ t.ct) ∷ []) ≡ true
unfolding after_walk
taken t =
    let words = (t.a ∷ t.at) ∷ (t.b ∷ t.bt) ∷ (t.c ∷ t.ct) ∷ [] in
    and_from _ _ simple
    (ap (after_walk (built command) words) (after_all t)
    ∙ and_from _ _ (all_pass t) (ends_well (t.a ∷ t.at) (t.b ∷ t.bt) (t.c ∷ t.ct)))

table_in : (w v u : Text) → first_of (codes "table") (finished rules (third w v u).held) ≡ Some v
unfolding clap_on_literals
table_in w v u = refl

script_in : (w v u : Text) → first_of (codes "script") (finished rules (third w v u).held) ≡ Some u
unfolding clap_on_literals
script_in w v u = refl

pub table_is : (t : Three) → first_of (codes "table") (matches_of command ((t.a ∷ t.at) ∷ (t.b ∷ t.bt) ∷ (t.c ∷ t.ct) ∷ [])) ≡ Some (t.b ∷ t.bt)
table_is t = ap (λ (w : Walk). first_of (codes "table") (finished rules w.held)) (after_all t) ∙ table_in (t.a ∷ t.at) (t.b ∷ t.bt) (t.c ∷ t.ct)

pub script_is : (t : Three) → first_of (codes "script") (matches_of command ((t.a ∷ t.at) ∷ (t.b ∷ t.bt) ∷ (t.c ∷ t.ct) ∷ [])) ≡ Some (t.c ∷ t.ct)
script_is t = ap (λ (w : Walk). first_of (codes "script") (finished rules w.held)) (after_all t) ∙ script_in (t.a ∷ t.at) (t.b ∷ t.bt) (t.c ∷ t.ct)

-- the words of which `files_of` tells the files, as three plain ones
pub record IsThree (ts : List Text) : Type 0 where
  pub t : Three
  pub words : ts ≡ (t.a ∷ t.at) ∷ (t.b ∷ t.bt) ∷ (t.c ∷ t.ct) ∷ []
  pub files : files_of ts ≡ Some (record { table = t.b ∷ t.bt; script = t.c ∷ t.ct })

not_hyphen : (b : Bool) → not b ≡ true → b ≡ false
not_hyphen true e = absurd (false≢true e)
not_hyphen false e = refl

some_test : (b : Bool) (n : Named) → is_some (cond b (Some n) None) ≡ true → b ≡ true
some_test true n e = refl
some_test false n e = absurd (false≢true e)

three_from : (a b c : Text) → is_some (files_of (a ∷ b ∷ c ∷ [])) ≡ true → IsThree (a ∷ b ∷ c ∷ [])
three_from a [] c e = let test = some_test (bytes_eq a (codes "run") && (is_plain [] && is_plain c)) _ e in absurd (false≢true (and_parts _ _ test).1)
three_from a (x ∷ xs) [] e =
    let test = some_test (bytes_eq a (codes "run") && (is_plain (x ∷ xs) && is_plain [])) _ e in
    absurd (false≢true (and_parts _ _ (and_parts _ _ test).1).1)
three_from a (x ∷ xs) (y ∷ ys) e =
    let test = some_test (bytes_eq a (codes "run") && (is_plain (x ∷ xs) && is_plain (y ∷ ys))) _ e in
    let parts = and_parts _ _ test in
    let plain = and_parts _ _ parts.1 in
    let run : a ≡ codes "run" = (bytes_eq-Decides a (codes "run")).0 parts.0 in
    record {
      t = record { a = 114; at = codes "un"; b = x; bt = xs; c = y; ct = ys; plain_a = refl; plain_b = not_hyphen _ plain.0; plain_c = not_hyphen _ plain.1 };
      words = ap (λ (w : Text). w ∷ (x ∷ xs) ∷ (y ∷ ys) ∷ []) run;
      files = ap (λ (b : Bool). cond b (Some (record { table = x ∷ xs; script = y ∷ ys })) None) test;
    }

pub is_three : (ts : List Text) → is_some (files_of ts) ≡ true → IsThree ts
is_three [] e = absurd (false≢true e)
is_three (a ∷ []) e = absurd (false≢true e)
is_three (a ∷ b ∷ []) e = absurd (false≢true e)
is_three (a ∷ b ∷ c ∷ []) e = three_from a b c e
is_three (a ∷ b ∷ c ∷ d ∷ rest) e = absurd (false≢true e)

-- what `get_str` and `unwrap_or` read, from the rows
got : (r : Option (Bor Text)) (d : Bor Text) (v : Text) → option_map (λ s. s.now) r ≡ Some v → (unwrap_or r d).now ≡ v
got None d v e = cc
got (Some s) d v e = cc

pub read_of : (m : ArgMatches) (id : Text) (r : Option (Bor Text)) (d : Bor Text) (v : Text) (rows : List Row)
    → rows_of (found_of m) ≡ rows → first_of id rows ≡ Some v → option_map (λ s. s.now) r ≡ first_value (found_of m) id → (unwrap_or r d).now ≡ v
read_of m id r d v rows has at get = got r d v (get ∙ first_value-rows (found_of m) id ∙ ap (first_of id) has ∙ at)
