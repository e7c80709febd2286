-- The records from the last image on: they are good where all are, and how many bytes they have.
use Rattle.std.proofs.Common.{◌≡◌, ℕ, ◌+◌, Bool, true, false, cond, ◌||◌, List, [], ◌∷◌, length, Some, None, refl, sym, subst, ◌∙◌, ap, ap₂, arith, length-append}
use Rattle.std.specs.List.{flat_map}
use Rattle.std.proofs.lemmas.Grind.{flat_map-append}
use Rattle.gx_base.proofs.Tests.{not-both}
use Rattle.product_file.specs.Products.{ProductLists}
use Rattle.match_journal.specs.Journal.{Record, journal_front, header, open_record, Header}
use Rattle.match_journal.specs.declared.entry.EntryKind.{EntryKind}
use Rattle.match_journal.specs.declared.entry.EntryKind.TheVariants.{Frames, OldImage, Image, Amendment}
use Rattle.order_kinds.specs.Histories.{History, of_product, last_product}
use Rattle.book_recovery.specs.Histories.{AreGoodFrom, history_as, history_behind}
use Rattle.book_recovery.specs.Records.{is_image_kind, is_image, has_image, from_last_image, before_last_image, image_gate, count_as, count_behind, IsGoodAs, AreGoodRecords}
use Rattle.book_recovery.specs.Recovering.{first_read}
use Rattle.book_recovery.proofs.LastImages.{or-none, last-behind, last-here, last_split, none-before}
use Rattle.book_recovery.proofs.Histories.{as-last, last-frames, behind-frames}

-- ---- good records

-- an image is good, or not, whatever was counted before it, and so are the records after it
good-anew : (product : ProductLists) (count : ℕ) (kind : EntryKind) (payload : List ℕ) (records : List Record)
    → (is_image_kind kind ≡ false → count ≡ 0) → IsGoodAs product count kind payload → AreGoodRecords product (count_as count kind payload) records
    → IsGoodAs product 0 kind payload × AreGoodRecords product (count_as 0 kind payload) records
good-anew product count Frames payload records none good more =
    (subst (λ (n : ℕ). IsGoodAs product n Frames payload) (none refl) good, subst (λ (n : ℕ). AreGoodRecords product (count_as n Frames payload) records) (none refl) more)
good-anew product count OldImage payload records none good more = (good, more)
good-anew product count Image payload records none good more = (good, more)
good-anew product count Amendment payload records none good more = (good, more)

good-behind : (product : ProductLists) (count : ℕ) (records : List Record) → (has_image records ≡ false → count ≡ 0) → AreGoodRecords product count records
    → AreGoodRecords product 0 (from_last_image records)
good-behind product count [] none good = tt
good-behind product count (r ∷ records) none good =
    let go : (b : Bool) → has_image records ≡ b → AreGoodRecords product 0 (from_last_image (r ∷ records)) = elim [
      | true ↦ λ some. subst (AreGoodRecords product 0) (sym (last-behind r records some))
          (good-behind product (count_behind count r) records (λ no. not-both (has_image records) some no) good.1)
      | false ↦ λ no. subst (AreGoodRecords product 0) (sym (last-here r records no))
          (good-anew product count r.kind r.payload records (λ frames. none (ap₂ (λ (a b : Bool). a || b) frames no)) good.0 good.1)
    ] in go (has_image records) refl

-- where all records are good, so are those from the last image on
pub good-from-last : (product : ProductLists) (records : List Record) → AreGoodRecords product 0 records → AreGoodRecords product 0 (from_last_image records)
good-from-last product records good = good-behind product 0 records (λ none. refl) good

-- ---- good records under one product after the other

-- frames leave the product
good-frames : (product last : ProductLists) (count : ℕ) (records : List Record) → has_image records ≡ false → product ≡ last → AreGoodFrom product count records → AreGoodRecords last count records
good-frames product last count [] none same good = tt
good-frames product last count (r ∷ records) none same good =
    let split = or-none (is_image r) (has_image records) none in
    let there : good.0 ≡ last = behind-frames product good.0 r.kind r.payload split.0 good.1 ∙ same in
    (subst (λ (p : ProductLists). IsGoodAs p count r.kind r.payload) there good.2, good-frames good.0 last (count_as count r.kind r.payload) records split.1 there good.3)

good-last : (product last : ProductLists) (count : ℕ) (h : History) (records : List Record) → last_product h ≡ product → last_product (history_behind h records) ≡ last → (has_image records ≡ false → count ≡ 0)
    → AreGoodFrom product count records → AreGoodRecords last 0 (from_last_image records)
good-last product last count h [] under is none good = tt
good-last product last count h (r ∷ records) under is none good =
    let then = history_as h r.kind r.payload in
    let next : last_product then ≡ good.0 = as-last product good.0 h r.kind r.payload under good.1 in
    let go : (b : Bool) → has_image records ≡ b → AreGoodRecords last 0 (from_last_image (r ∷ records)) = elim [
      | true ↦ λ some. subst (AreGoodRecords last 0) (sym (last-behind r records some))
          (good-last good.0 last (count_as count r.kind r.payload) then records next is (λ no. not-both (has_image records) some no) good.3)
      | false ↦ λ no.
          let same : good.0 ≡ last = sym next ∙ sym (last-frames then records no) ∙ is in
          subst (AreGoodRecords last 0) (sym (last-here r records no))
          (good-anew last count r.kind r.payload records (λ frames. none (ap₂ (λ (a b : Bool). a || b) frames no))
          (subst (λ (p : ProductLists). IsGoodAs p count r.kind r.payload) same good.2) (good-frames good.0 last (count_as count r.kind r.payload) records no same good.3))
    ] in go (has_image records) refl

-- where all records are good, those from the last image on are good under the last product alone
pub good-from-first : (first : ProductLists) (records : List Record) → AreGoodFrom first 0 records → AreGoodRecords (last_product (history_behind (of_product first []) records)) 0 (from_last_image records)
good-from-first first records good = good-last first (last_product (history_behind (of_product first []) records)) 0 (of_product first []) records refl refl (λ none. refl) good

-- ---- their bytes

front-length : (head : Header) (records : List Record) → length (journal_front head records) ≡ length (journal_front head []) + length (flat_map open_record records)
front-length head records =
    omega (arith, length-append (header head) (flat_map open_record records), length-append (header head) (flat_map open_record (let none : List Record = [] in none)))

-- the journal ends so many bytes after the place from which on all of it is read
pub front-from-last : (head : Header) (records : List Record)
    → length (journal_front head records) ≡ first_read (image_gate head records) (length (journal_front head [])) + length (flat_map open_record (from_last_image records))
front-from-last head records =
    let before = before_last_image records in
    let from = from_last_image records in
    let both : length (journal_front head records) ≡ length (journal_front head before) + length (flat_map open_record from) =
    omega (
      arith,
      front-length head records,
      front-length head before,
      length-append (flat_map open_record before) (flat_map open_record from),
      ap (λ (l : List Record). length (flat_map open_record l)) (sym (last_split records)),
      ap length (flat_map-append open_record before from),
    ) in
    let go : (b : Bool) → has_image records ≡ b
    → length (journal_front head records) ≡ first_read (cond b (Some (length (journal_front head before))) None) (length (journal_front head [])) + length (flat_map open_record from) = elim [
      | true ↦ λ some. both
      | false ↦ λ none. both ∙ ap (λ (l : List Record). length (journal_front head l) + length (flat_map open_record from)) (none-before records none)
    ] in go (has_image records) refl
