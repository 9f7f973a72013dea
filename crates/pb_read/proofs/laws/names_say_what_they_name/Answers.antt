use Rattle.pb_read.proofs.NameWords.{fault_of_number, head_named, key_named, named_head, named_key, no_value, numbered_fault, project_columns_are, project_columns_found, value_is, vote_columns_are, vote_columns_found}
use Rattle.pb_read.proofs.laws.names_say_what_they_name.Goals as goal

pub returns : goal.returns
returns c = record {
  head = λ row section. (head_named row section, named_head row section);
  key = λ text key. (key_named text key, named_key text key);
  value = value_is;
  none = no_value;
  projects = λ header c. (project_columns_found header c, project_columns_are header c);
  votes = λ header c. (vote_columns_found header c, vote_columns_are header c);
  refused = λ kind read. (fault_of_number kind read, numbered_fault kind read);
}
