-- What events and messages leave of a form, and what is printed of them.
use Rattle.std.proofs.Common.{◌≡◌, ℕ, List, [], ◌∷◌, ◌++◌, Option, true, fold, refl, sym, ◌∙◌, ap}
use Rattle.std.proofs.lemmas.List.Sums.{fold-append}
use Rattle.std.specs.List.{flat_map}
use Rattle.gx_base.specs.NameLists.{NameLists}
use Rattle.gx_base.specs.declared.event.Event.{Event}
use Rattle.gx_station.specs.Stations.{sent_and}
use Rattle.gx_station.specs.SendLaws.{sent_and_none, sent_and-append}
use Rattle.product_file.specs.Products.{ProductLists}
use Rattle.exec_report.specs.Forms.{FormMeanings, noted_all, behind}
use Rattle.exec_report.specs.LineEmits.{with_event}

module _ {F : Type 0} (f : FormMeanings F) where
  -- events are printed as by the form before them
  pub printed_all : (names : NameLists) (form : F) (bytes : Option (List ℕ)) (events : List Event)
      → fold (with_event f names) (record { form = form; bytes = bytes }) events ≡ record { form = fold f.after form events; bytes = sent_and bytes (flat_map (f.text form names) events) }
  printed_all names form bytes [] = ap (λ (b : Option (List ℕ)). record { form = form; bytes = b }) (sym (sent_and_none bytes))
  printed_all names form bytes (e ∷ events) =
      printed_all names (f.after form e) (sent_and bytes (f.text form names e)) events
      ∙ ap (λ (b : Option (List ℕ)). record { form = fold f.after (f.after form e) events; bytes = b })
      (ap (λ (t : NameLists → Event → List ℕ). sent_and (sent_and bytes (f.text form names e)) (flat_map (t names) events)) (f.text_after form e)
      ∙ sym (sent_and-append bytes (f.text form names e) (flat_map (f.text form names) events)))

  -- messages are noted after events as before them
  noted-past-events : (form : F) (product : ProductLists) (frame : List ℕ) (events : List Event) → f.noted (fold f.after form events) product frame ≡ fold f.after (f.noted form product frame) events
  noted-past-events form product frame [] = refl
  noted-past-events form product frame (e ∷ events) =
      noted-past-events (f.after form e) product frame events ∙ ap (λ (g : F). fold f.after g events) (f.apart form e product frame)

  noted-all-past : (form : F) (product : ProductLists) (frames : List (List ℕ)) (events : List Event) → noted_all f (fold f.after form events) product frames ≡ fold f.after (noted_all f form product frames) events
  noted-all-past form product [] events = refl
  noted-all-past form product (frame ∷ frames) events =
      ap (λ (g : F). noted_all f g product frames) (noted-past-events form product frame events) ∙ noted-all-past (f.noted form product frame) product frames events

  pub behind-then : (form : F) (product : ProductLists) (frames more : List (List ℕ)) (xs ys : List Event)
      → behind f form product (frames ++ more) (xs ++ ys) ≡ behind f (behind f form product frames xs) product more ys
  behind-then form product frames more xs ys =
      fold-append f.after (noted_all f form product (frames ++ more)) xs ys
      ∙ ap (λ (g : F). fold f.after (fold f.after g xs) ys) (fold-append (λ (g : F) (frame : List ℕ). f.noted g product frame) form frames more)
      ∙ ap (λ (g : F). fold f.after g ys) (sym (noted-all-past (noted_all f form product frames) product more xs))

  pub text-noted-all : (form : F) (product : ProductLists) (frames : List (List ℕ)) → f.text (noted_all f form product frames) ≡ f.text form
  text-noted-all form product [] = refl
  text-noted-all form product (frame ∷ frames) = text-noted-all (f.noted form product frame) product frames ∙ f.text_noted form product frame

  pub text-after-all : (form : F) (events : List Event) → f.text (fold f.after form events) ≡ f.text form
  text-after-all form [] = refl
  text-after-all form (e ∷ events) = text-after-all (f.after form e) events ∙ f.text_after form e

  -- messages and events leave the lines as they are
  pub text-behind : (form : F) (product : ProductLists) (frames : List (List ℕ)) (events : List Event) → f.text (behind f form product frames events) ≡ f.text form
  text-behind form product frames events = text-after-all (noted_all f form product frames) events ∙ text-noted-all form product frames

  -- a silent form prints nothing of any events
  pub nothing-printed : f.is_silent ≡ true → (form : F) (names : NameLists) (events : List Event) → flat_map (f.text form names) events ≡ []
  nothing-printed silent form names [] = refl
  nothing-printed silent form names (e ∷ events) =
      ap (λ (l : List ℕ). l ++ flat_map (f.text form names) events) (f.silent silent form names e) ∙ nothing-printed silent form names events

  -- of a form that keeps nothing of messages
  pub noted-nothing : ((form : F) (product : ProductLists) (frame : List ℕ) → f.noted form product frame ≡ form) → (form : F) (product : ProductLists) (frames : List (List ℕ)) → noted_all f form product frames ≡ form
  noted-nothing none form product [] = refl
  noted-nothing none form product (frame ∷ frames) = ap (λ (g : F). noted_all f g product frames) (none form product frame) ∙ noted-nothing none form product frames
