use Rattle.std.proofs.lemmas.Grind.{flat_map-append}
use Rattle.pb_page.specs.Markup.{character}
use Rattle.pb_page.proofs.Characters.{each_stands, plain_stands}
use Rattle.pb_page.proofs.Ends.{attributes_hold, no_control, no_tags}
use Rattle.pb_page.proofs.markup.laws.texts_stay_texts.Goals as goal

pub returns-clause-attribute : goal.returns-clause-attribute
returns-clause-attribute c = attributes_hold

pub returns-clause-tags : goal.returns-clause-tags
returns-clause-tags c = no_tags

pub returns-clause-control : goal.returns-clause-control
returns-clause-control c = no_control

pub returns-clause-each : goal.returns-clause-each
returns-clause-each c = each_stands

pub returns-clause-plain : goal.returns-clause-plain
returns-clause-plain c = plain_stands

pub returns-clause-joined : goal.returns-clause-joined
returns-clause-joined c = flat_map-append character
