-- An index file that is read has the same bytes.
use Rattle.std.proofs.Common.{◌≡◌, ◌<◌, sym, subst, ◌∙◌, ℕ, List, length, inl, inr, Option}
use Rattle.dev_traits.specs.Reader.{ReaderView}
use Rattle.dev_traits.specs.declared.faults.Damaged.{Damaged}
use Rattle.dev_traits.specs.declared.faults.Part.TheVariants as part
use Rattle.index_level0.specs.Levels.{Entry, Level}
use Rattle.index_file.specs.Damages.{IsBucketDamage, IsCountDamage, IsDamageAt, IsFileDamage}
use Rattle.index_file.specs.Entries.{BucketShown, HasLevel, IsFileOf}
use Rattle.index_file.specs.Listing.{HasEntry, ReadsAs}
use Rattle.index_file.specs.Reads.{bucket_in, IsDamage, OfBucket, OnFile}
use Rattle.index_file.specs.declared.footers.IndexFooter.{IndexFooter}
use Rattle.pk_index.specs.Files.{IsSame}

-- a reader that tells these bytes
abbrev seen : Option (List ℕ) → ReaderView
seen bytes = record { bytes = bytes; size = 0; faults = 0; reads = 0 }

module _ {F : Type 0} (base number : F → ℕ) (footer : F → IndexFooter) (view : F → ReaderView) where
  -- what holds of one holds of the other
  carried : (P : ℕ → ℕ → IndexFooter → Option (List ℕ) → Type 0) → (x y : F) → base y ≡ base x → number y ≡ number x → footer y ≡ footer x → (view y).bytes ≡ (view x).bytes
      → P (base y) (number y) (footer y) (view y).bytes → P (base x) (number x) (footer x) (view x).bytes
  carried P x y b n f s h = subst (λ (p : ℕ × ℕ × IndexFooter × Option (List ℕ)). P p.0 p.1 p.2 p.3) (λ i. (b i, n i, f i, s i)) h

  levels_half : (x y : F) → base y ≡ base x → number y ≡ number x → footer y ≡ footer x → (view y).bytes ≡ (view x).bytes → (level : Level)
      → HasLevel (base y) (footer y) (view y) level → HasLevel (base x) (footer x) (view x) level
  levels_half x y b n f s level h = record {
    file = h.file;
    told = sym s ∙ h.told;
    is = carried (λ base number footer bytes. IsFileOf base footer h.file level) x y b n f s h.is;
  }

  entries_half : (x y : F) → base y ≡ base x → number y ≡ number x → footer y ≡ footer x → (view y).bytes ≡ (view x).bytes → (key : List ℕ) (entry : Option Entry)
      → HasEntry (base y) (footer y) (view y) key entry → HasEntry (base x) (footer x) (view x) key entry
  entries_half x y b n f s key entry h = carried (λ base number footer bytes. HasEntry base footer (seen bytes) key entry) x y b n f s h

  reading_half : (x y : F) → base y ≡ base x → number y ≡ number x → footer y ≡ footer x → (view y).bytes ≡ (view x).bytes → (level : Level)
      → ReadsAs (base y) (footer y) (view y) level → ReadsAs (base x) (footer x) (view x) level
  reading_half x y b n f s level h = carried (λ base number footer bytes. ReadsAs base footer (seen bytes) level) x y b n f s h

  at_half : (x y : F) → base y ≡ base x → number y ≡ number x → footer y ≡ footer x → (view y).bytes ≡ (view x).bytes → (key : List ℕ) (shown : Damaged)
      → IsDamageAt (base y) (footer y) (number y) (view y) key shown → IsDamageAt (base x) (footer x) (number x) (view x) key shown
  at_half x y b n f s key shown h = carried (λ base number footer bytes. IsDamageAt base footer number (seen bytes) key shown) x y b n f s h

  count_half : (x y : F) → base y ≡ base x → number y ≡ number x → footer y ≡ footer x → (view y).bytes ≡ (view x).bytes → (shown : Damaged)
      → IsCountDamage (base y) (footer y) (number y) (view y) shown → IsCountDamage (base x) (footer x) (number x) (view x) shown
  count_half x y b n f s shown h = carried (λ base number footer bytes. IsCountDamage base footer number (seen bytes) shown) x y b n f s h

  bucket_half : (x y : F) → base y ≡ base x → number y ≡ number x → footer y ≡ footer x → (view y).bytes ≡ (view x).bytes → (damaged : Damaged)
      → IsBucketDamage (base y) (footer y) (number y) (view y) damaged → IsBucketDamage (base x) (footer x) (number x) (view x) damaged
  bucket_half x y b n f s damaged h =
      let both = carried (λ base number footer bytes. (h.bucket < length footer.buckets) × IsDamage number (part.Bucket h.bucket) (λ shown. OnFile (seen bytes) (λ file. OfBucket footer h.bucket (λ mark.
      BucketShown (length footer.buckets) h.bucket base mark.length (bucket_in file mark) shown))) damaged) x y b n f s (h.there, h.is) in
      record { bucket = h.bucket; there = both.0; is = both.1 }

  file_half : (x y : F) → base y ≡ base x → number y ≡ number x → footer y ≡ footer x → (view y).bytes ≡ (view x).bytes → (shown : Damaged)
      → IsFileDamage (base y) (footer y) (number y) (view y) shown → IsFileDamage (base x) (footer x) (number x) (view x) shown
  file_half x y b n f s shown (inl h) = inl (bucket_half x y b n f s shown h)
  file_half x y b n f s shown (inr h) = inr (count_half x y b n f s shown h)

  pub file_same : (old new : F) → base new ≡ base old → number new ≡ number old → footer new ≡ footer old → (view new).bytes ≡ (view old).bytes
      → IsSame (λ f level. HasLevel (base f) (footer f) (view f) level) (λ f key entry. HasEntry (base f) (footer f) (view f) key entry) (λ f level. ReadsAs (base f) (footer f) (view f) level)
      (λ f key shown. IsDamageAt (base f) (footer f) (number f) (view f) key shown) (λ f shown. IsFileDamage (base f) (footer f) (number f) (view f) shown) old new
  file_same old new b n f s = record {
    levels = λ l. (levels_half new old (sym b) (sym n) (sym f) (sym s) l, levels_half old new b n f s l);
    entries = λ k e. (entries_half new old (sym b) (sym n) (sym f) (sym s) k e, entries_half old new b n f s k e);
    reading = λ l. (reading_half new old (sym b) (sym n) (sym f) (sym s) l, reading_half old new b n f s l);
    damage_at = λ k d. (at_half new old (sym b) (sym n) (sym f) (sym s) k d, at_half old new b n f s k d);
    damage = λ d. (file_half new old (sym b) (sym n) (sym f) (sym s) d, file_half old new b n f s d);
  }

-- what is seen of an index file
pub record FileIs : Type 0 where
  pub base : ℕ
  pub number : ℕ
  pub footer : IndexFooter
  pub view : ReaderView

pub same_file : (old new : FileIs) → new.base ≡ old.base → new.number ≡ old.number → new.footer ≡ old.footer → new.view.bytes ≡ old.view.bytes
    → IsSame (λ (f : FileIs) level. HasLevel f.base f.footer f.view level) (λ (f : FileIs) key entry. HasEntry f.base f.footer f.view key entry) (λ (f : FileIs) level. ReadsAs f.base f.footer f.view level)
    (λ (f : FileIs) key shown. IsDamageAt f.base f.footer f.number f.view key shown) (λ (f : FileIs) shown. IsFileDamage f.base f.footer f.number f.view shown) old new
same_file old new b n f s = file_same (λ (f : FileIs). f.base) (λ (f : FileIs). f.number) (λ (f : FileIs). f.footer) (λ (f : FileIs). f.view) old new b n f s
