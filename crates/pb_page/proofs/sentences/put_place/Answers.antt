use Rattle.std.proofs.Common.{refl}
use Rattle.pb_page.specs.Inner.Filling.{cut}
use Rattle.pb_page.specs.Inner.Value.{at_place}
use Rattle.pb_page.specs.declared.place.Place.TheVariants.{Text, Digits, Noun, Shown, Nameless, Said, Code, Files, Link, Project}
use Rattle.pb_page.proofs.Grown.{alike_put}
use Rattle.pb_page.proofs.sentences.put_place.Goals as goal

pub returns-in-Text : goal.returns-in-Text
unfolding cut
returns-in-Text c = rw c.in-Text.is (alike_put _ _ (at_place c.args.language.now (Text c.in-Text.text)) _ _ c.put.ensures (λ rest. refl))

pub returns-in-Digits : goal.returns-in-Digits
unfolding cut
returns-in-Digits c = rw c.in-Digits.is (alike_put _ _ (at_place c.args.language.now (Digits c.in-Digits.number)) _ _ c.put-in-Digits.ensures (λ rest. refl))

pub returns-in-Noun : goal.returns-in-Noun
unfolding cut
returns-in-Noun c = rw c.in-Noun.is (alike_put _ _ (at_place c.args.language.now (Noun c.in-Noun.key c.in-Noun.number)) _ _ c.put-in-Noun.ensures (λ rest. refl))

pub returns-in-Shown : goal.returns-in-Shown
unfolding cut
returns-in-Shown c = rw c.in-Shown.is (alike_put _ _ (at_place c.args.language.now (Shown c.in-Shown.amount c.in-Shown.form)) _ _ c.put-in-Shown.ensures (λ rest. refl))

pub returns-in-Nameless : goal.returns-in-Nameless
unfolding cut
returns-in-Nameless c = rw c.in-Nameless.is (alike_put _ _ (at_place c.args.language.now (Nameless c.in-Nameless.amount c.in-Nameless.form)) _ _ c.put-in-Nameless.ensures (λ rest. refl))

pub returns-in-Said : goal.returns-in-Said
unfolding cut
returns-in-Said c = rw c.in-Said.is (alike_put _ _ (at_place c.args.language.now (Said c.in-Said.key)) _ _ c.put-in-Said.ensures (λ rest. refl))

pub returns-in-Code : goal.returns-in-Code
unfolding cut
returns-in-Code c = rw c.in-Code.is (alike_put _ _ (at_place c.args.language.now (Code c.in-Code.text)) _ _ c.put-in-Code.ensures (λ rest. refl))

pub returns-in-Project : goal.returns-in-Project
unfolding cut
returns-in-Project c = rw c.in-Project.is (alike_put _ _ (at_place c.args.language.now (Project c.in-Project.place c.in-Project.id c.in-Project.name)) _ _ c.put-in-Project.ensures (λ rest. refl))

pub returns-in-Files : goal.returns-in-Files
unfolding cut
returns-in-Files c = rw c.in-Files.is (alike_put _ _ (at_place c.args.language.now (Files c.in-Files.address)) _ _ c.put-in-Files.ensures (λ rest. refl))

pub returns-in-Link : goal.returns-in-Link
unfolding cut
returns-in-Link c = rw c.in-Link.is (alike_put _ _ (at_place c.args.language.now (Link c.in-Link.address c.in-Link.key)) _ _ c.put-in-Link.ensures (λ rest. refl))
