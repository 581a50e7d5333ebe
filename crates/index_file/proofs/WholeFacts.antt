-- Buckets that were found whole.
use Rattle.std.proofs.Common.{◌≡◌, sym, subst, ◌∙◌, ℕ, Bool as Truth, true, false, get_or, ◌⊎◌, List, [], All, ◌<◌, length, Some, None, inl, inr}
use Rattle.std.proofs.Math.Dec.{T_prop}
use Rattle.std.proofs.Math.Logic.{∥∥₁_map}
use Rattle.std.proofs.Math.Path.{PathP, to_path_p}
use Rattle.std.specs.Prelude.{Option}
use Rattle.std.specs.Coded.{Coded-set, coded_ℕ, coded_bool, coded_list, coded_option, coded×, le_prop, ×_prop, Π_prop, →_prop, Unit-prop}
use Rattle.std.specs.List.{AllByRecursion-prop}
use Rattle.std.specs.Option.{option_map}
use Rattle.std.specs.FinMap.{find}
use Rattle.std.specs.Cmp.Lexicographic.{slice_cmp}
use Rattle.std.specs.Ordering.{nat_cmp}
use Rattle.dev_traits.specs.Reader.{ReaderView, SameFile}
use Rattle.index_level0.specs.Levels.{Entry, coded_place}
use Rattle.index_file.specs.declared.footers.IndexFooter.{IndexFooter}
use Rattle.index_file.specs.Buckets.{Pair, PairFits, PlaceFits}
use Rattle.index_file.specs.Entries.{IsBucketOf, IsTheBucket, with_base}
use Rattle.index_file.specs.Listing.{HasEntryIn}
use Rattle.index_file.specs.Reads.{bucket_in}
use Rattle.index_file.specs.Wholes.{AddsNote, AreWhole, IsWhole}

-- ---- a bucket is of one list of entries, in one way

place_prop : (x : Entry) → IsProp (PlaceFits x)
place_prop None = Unit-prop
place_prop (Some p) = ×_prop le_prop le_prop

bytes_prop : (xs : List ℕ) → IsProp (All (λ byte. byte < 256) xs)
bytes_prop xs x y i k d less = le_prop (x k d less) (y k d less) i

pair_prop : (e : Pair) → IsProp (PairFits e)
pair_prop e x y i = (le_prop x.0 y.0 i, bytes_prop e.0 x.1 y.1 i, place_prop e.1 x.2 y.2 i)

pairs_set : (xs ys : List Pair) → IsProp (xs ≡ ys)
pairs_set xs ys = Coded-set (coded_list (coded× (coded_list coded_ℕ) (coded_option coded_place))) xs ys

bucket_prop : (buckets b base : ℕ) (bytes : List ℕ) (es : List Pair) → IsProp (IsBucketOf buckets b base bytes es)
bucket_prop buckets b base bytes es x y i = record {
  fit = AllByRecursion-prop PairFits pair_prop es x.fit y.fit i;
  few = le_prop x.few y.few i;
  rise = T_prop _ x.rise y.rise i;
  belong = Coded-set coded_bool _ _ x.belong y.belong i;
  written = Coded-set (coded_list coded_ℕ) _ _ x.written y.written i;
}

the_bucket_prop : (buckets b base : ℕ) (bytes : List ℕ) (es : List Pair) → IsProp (IsTheBucket buckets b base bytes es)
the_bucket_prop buckets b base bytes es x y i = record {
  is = bucket_prop buckets b base bytes es x.is y.is i;
  only = Π_prop (λ others. →_prop (pairs_set es others)) x.only y.only i;
}

over : {A : Type 0} (B : A → Type 0) → ((a : A) → IsProp (B a)) → (a b : A) (p : a ≡ b) (u : B a) (v : B b) → PathP (λ i. B (p i)) u v
over B h a b p u v = to_path_p (λ i. B (p i)) (h b (coe 0 1 (k. B (p k)) u) v)

entry_set : (e d : Option Entry) → IsProp (e ≡ d)
entry_set e d = Coded-set (coded_option (coded_option coded_place)) e d

pub entry_prop : (base : ℕ) (f : IndexFooter) (reader : ReaderView) (b : ℕ) (key : List ℕ) (entry : Option Entry) → IsProp (HasEntryIn base f reader b key entry)
entry_prop base f reader b key entry x y i file told mark got =
    let u = x file told mark got in
    let v = y file told mark got in
    let p = u.1.only v.0 v.1.is in (
      p i,
      over (λ (es : List Pair). IsTheBucket (length f.buckets) b base (bucket_in file mark) es) (the_bucket_prop (length f.buckets) b base (bucket_in file mark)) u.0 v.0 p u.1 v.1 i,
      over (λ (es : List Pair). entry ≡ option_map (with_base base) (find (slice_cmp nat_cmp) key es)) (λ es. entry_set entry (option_map (with_base base) (find (slice_cmp nat_cmp) key es))) u.0 v.0 p u.2 v.2 i,
    )

-- ---- notes

pub none_noted : (base : ℕ) (f : IndexFooter) (reader : ReaderView) (notes : List Truth) → notes ≡ [] → ∥ AreWhole base f reader notes ∥₁
none_noted base f reader notes none = subst (λ (ns : List Truth). ∥ AreWhole base f reader ns ∥₁) (sym none) ∣ nothing ∣₁
  where
    nothing : AreWhole base f reader []
    nothing b noted = cc

pub still_whole : (base : ℕ) (f : IndexFooter) (old new : ReaderView) (notes : List Truth) → SameFile old new → ∥ AreWhole base f old notes ∥₁ → ∥ AreWhole base f new notes ∥₁
still_whole base f old new notes same whole = ∥∥₁_map whole (λ w b noted file told. w b noted file (sym same.bytes ∙ told))

pub one_whole : (base : ℕ) (f : IndexFooter) (reader : ReaderView) (notes : List Truth) (b : ℕ) → get_or notes b false ≡ true → ∥ AreWhole base f reader notes ∥₁ → ∥ IsWhole base f reader b ∥₁
one_whole base f reader notes b noted whole = ∥∥₁_map whole (λ w. w b noted)

pub more_whole : (base : ℕ) (f : IndexFooter) (old new : ReaderView) (before now : List Truth) (b : ℕ) → SameFile old new → IsWhole base f old b → AddsNote b before now
    → ∥ AreWhole base f old before ∥₁ → ∥ AreWhole base f new now ∥₁
more_whole base f old new before now b same one adds whole = ∥∥₁_map whole (λ w i noted file told. go w i (adds i noted) file (sym same.bytes ∙ told))
  where
    go : AreWhole base f old before → (i : ℕ) → (i ≡ b) ⊎ (get_or before i false ≡ true) → IsWhole base f old i
    go w i (inl e) = subst (λ (k : ℕ). IsWhole base f old k) (sym e) one
    go w i (inr noted) = w i noted

pub same_some : {A : Type 0} (x y : A) → Some x ≡ Some y → x ≡ y
same_some x y e = cc
